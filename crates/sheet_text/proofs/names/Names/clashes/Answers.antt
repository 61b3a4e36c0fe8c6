-- `sheet_text::Names::clashes` meets its contract. Assumes nothing.
use mathlib.Core.Path.{◌∙◌}
use Rattle.std.proofs.Common.{rules, tests}
use Rattle.std.proofs.lemmas.Iterator.{YieldsList-from_slice}
use Rattle.std.proofs.lemmas.Iterator.Search.{any_from_yields_List}
use Rattle.sheet_text.specs.Text.{differ_by_star}
use Rattle.sheet_text.proofs.Finding.{any-clashes}
use Rattle.sheet_text.proofs.names.Names.clashes.Goals as goal

pub returns : goal.returns
returns c =
    any_from_yields_List (λ x. differ_by_star c.args.name.now x.now) _ _ c.any.result c.any.ensures.ran (YieldsList-from_slice c.as_slice.result.now cc) (λ x b q k. search (rules, tests))
    ∙ rw (← c.as_slice.ensures) (any-clashes _ _)
