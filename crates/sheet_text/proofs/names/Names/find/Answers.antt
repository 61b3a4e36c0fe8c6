-- `sheet_text::Names::find` meets its contract. Assumes nothing.
use Rattle.std.proofs.Common.{rules, tests, eqb}
use Rattle.std.specs.Cmp.Lexicographic.{pointwise}
use Rattle.std.proofs.lemmas.Iterator.{YieldsList-from_slice}
use Rattle.std.proofs.lemmas.Iterator.Search.{position_from_yields_List}
use Rattle.sheet_text.proofs.Finding.{found}
use Rattle.sheet_text.proofs.names.Names.find.Goals as goal

pub returns : goal.returns
returns c =
    rw (← c.as_slice.ensures) (found c.args.name.now c.as_slice.result.now c.position.result
    (position_from_yields_List (λ x. pointwise eqb c.args.name.now x.now) _ _ c.position.result c.position.ensures.ran (YieldsList-from_slice c.as_slice.result.now cc) (λ x b q k. search (rules, tests))))
