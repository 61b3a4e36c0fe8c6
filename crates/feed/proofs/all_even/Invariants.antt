-- `feed::all_even` meets its contract: the flag says of the pairs passed that their sides are equal. Assumes nothing.
use Prim.Native.Nat.{◌≤◌}
use Rattle.feed.specs.inner.Parts.{AllEven}
use Rattle.feed.proofs.all_even.Given as goal

abbrev pub invariant-loop-j : goal.invariant-loop-j
invariant-loop-j l = (l.j ≤ l.count) × AllEven l.feed l.at l.j l.good
