-- `drawing_check::check_each` meets its contract. The loop's invariant: the check of those from i on is that of all. Assumes nothing.
use Prim.Native.Nat.{◌≤◌}
use mathlib.Core.Path.{◌≡◌}
use lib.ListN.{drop}
use Rattle.drawing.specs.Drawing.{read_each, check_each}
use Rattle.drawing.proofs.Checks.{check_from}
use Rattle.drawing_check.proofs.check_each.Given as goal

abbrev pub invariant-loop-i : goal.invariant-loop-i
invariant-loop-i g l =
    let width = g.T.Part.WORDS in
    (l.i ≤ l.n) × (check_from (g.T.Checked.verdict l.counts) g.T.Part.part_of width l.words l.from l.n l.i ≡ check_each (g.T.Checked.verdict l.counts) width l.from (read_each g.T.Part.part_of width l.n (drop l.from l.words)))
