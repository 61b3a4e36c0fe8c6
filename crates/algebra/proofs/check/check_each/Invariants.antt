-- `algebra::check::check_each` meets its contract. The loop's invariant: the check of the instructions from here on answers as that of all.
-- Assumes nothing.
use mathlib.Core.Path.{◌≡◌}
use Prim.Native.Nat.{◌≤◌}
use lib.ListN.{drop}
use Rattle.algebra.specs.Instructions.{instructions_of, check_each}
use Rattle.algebra.proofs.check.check_each.Given as goal

abbrev pub invariant-loop-i : goal.invariant-loop-i
invariant-loop-i l = (l.i ≤ l.count) × (check_each l.feed l.i (drop l.i (instructions_of l.list)) ≡ check_each l.feed 0 (instructions_of l.list))
