-- `sheet_text::is_number` meets its contract. Assumes nothing.
use Rattle.sheet_text.specs.Text.{within, is_number}
use Rattle.sheet_text.proofs.Words.{leading-is}
use Rattle.sheet_text.proofs.is_number.Goals as goal

pub returns-then-n : goal.returns-then-n
unfolding within is_number
returns-then-n c =
    rw (c.if-n.true, c.all_within.ensures, leading-is c.args.text.now, c.starts_with.ensures.value)

pub returns-else-n : goal.returns-else-n
unfolding within is_number
returns-else-n c =
    rw c.if-n.false
