-- `sheet_pages::page_answer` meets its contract: more picks than columns, or no more. Assumes nothing.
use native.Mathlib.Omega.{arith}
use Rattle.sheet_pages.proofs.Giving.{gives_same, wide-answered}
use Rattle.sheet_pages.proofs.page_answer.Goals as goal

pub returns-then-picks-gt-COLUMNS : goal.returns-then-picks-gt-COLUMNS
returns-then-picks-gt-COLUMNS c =
    gives_same (wide-answered _ _ _ _ (omega (arith, c.count_picks-picks.ensures, c.if-picks-gt-COLUMNS.true)) c.too_wide-refusal.ensures) c.refuse.ensures
