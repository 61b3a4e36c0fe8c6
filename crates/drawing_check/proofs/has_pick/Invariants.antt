-- `drawing_check::has_pick` meets its contract. The loop's invariant: whether a node from i on is picked is whether any is. Assumes nothing.
use mathlib.Core.Path.{◌≡◌}
use Prim.Native.Nat.{◌≤◌}
use lib.ListN.{drop}
use Rattle.tables.specs.Lists.{any}
use Rattle.drawing.specs.Drawing.{head_width, node_width, node_of, read_each, is_picked}
use Rattle.drawing.proofs.Encoding.{each_from}
use Rattle.drawing_check.proofs.has_pick.Given as goal

abbrev pub invariant-loop-i : goal.invariant-loop-i
invariant-loop-i l = (l.i ≤ l.n) × (any is_picked (each_from node_of node_width l.words head_width l.n l.i) ≡ any is_picked (read_each node_of node_width l.n (drop head_width l.words)))
