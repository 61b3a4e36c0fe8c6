-- `sheet_reader::count_lines` meets its contract. Assumes nothing.
use Rattle.std.proofs.Common.{rules, tests, eqb}
use Rattle.std.proofs.lemmas.Iterator.{YieldsList-from_slice}
use Rattle.std.proofs.lemmas.Iterator.Consumers.{YieldsList-from_filter, count_from_yields_List}
use mathlib.Core.Path.{◌∙◌}
use native.Mathlib.Omega.{arith}
use Rattle.sheet_reader.proofs.Grouping.{filtered, lines-few}
use Rattle.sheet_reader.proofs.count_lines.Goals as goal

pub overflow_cast-result : goal.overflow_cast-result
overflow_cast-result c =
    let e = count_from_yields_List _ c.count.result c.count.ensures.ran
    (YieldsList-from_filter _ (λ x. eqb x.table c.args.k) (YieldsList-from_slice c.args.entries.now cc) c.filter.ensures.closure (λ x b q k. search (rules, tests))) in
    omega (arith, e, filtered c.args.k c.args.entries.now, lines-few c.args.k c.args.entries.now, c.requires)

pub returns : goal.returns
returns c =
    count_from_yields_List _ c.count.result c.count.ensures.ran
    (YieldsList-from_filter _ (λ x. eqb x.table c.args.k) (YieldsList-from_slice c.args.entries.now cc) c.filter.ensures.closure (λ x b q k. search (rules, tests)))
    ∙ filtered c.args.k c.args.entries.now
