-- `sheet_text::all_within` meets its contract. Assumes nothing.
use mathlib.Core.Path.{◌∙◌}
use Rattle.std.proofs.Common.{rules, tests}
use Rattle.std.proofs.lemmas.Iterator.{YieldsList-from_slice}
use Rattle.std.proofs.lemmas.Iterator.Search.{all_from_yields_List}
use Rattle.sheet_text.specs.Text.{within}
use Rattle.sheet_text.proofs.Words.{all_is}
use Rattle.sheet_text.proofs.all_within.Goals as goal

pub returns : goal.returns
unfolding within
returns c =
    all_from_yields_List (within c.args.low c.args.high) _ _ _ c.all.ensures.ran (YieldsList-from_slice c.args.text.now cc) (λ x b q k. search (rules, tests)) ∙ all_is _ _
