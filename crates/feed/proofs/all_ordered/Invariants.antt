-- `feed::all_ordered` meets its contract: the flag says of the pairs passed that they are as they must be. Assumes nothing.
use Prim.Native.Nat.{◌≤◌}
use Rattle.feed.proofs.Passing.{Passing}
use Rattle.feed.proofs.all_ordered.Given as goal

abbrev pub invariant-loop-j : goal.invariant-loop-j
invariant-loop-j l = (l.j ≤ l.count) × Passing l.feed l.at l.j l.good l.last
