-- `sheet::count_picks` meets its contract. Assumes nothing.
use Rattle.std.proofs.Common.{rules, tests, eqb}
use Rattle.std.proofs.lemmas.Iterator.{YieldsList-from_slice}
use Rattle.std.proofs.lemmas.Iterator.Consumers.{YieldsList-from_filter, count_from_yields_List}
use mathlib.Core.Path.{◌∙◌}
use Rattle.sheet.proofs.Picks.{picked-filtered}
use Rattle.query_answer.specs.Query.{pick_count}
use Rattle.sheet.proofs.count_picks.Goals as goal

pub returns : goal.returns
unfolding pick_count
returns c =
    count_from_yields_List _ c.count.result c.count.ensures.ran
    (YieldsList-from_filter _ (λ v. eqb v.pick 1) (YieldsList-from_slice c.nodes.result.now cc) c.filter.ensures.closure (λ x b q k. search (rules, tests)))
    ∙ rw c.nodes.ensures (picked-filtered _)
