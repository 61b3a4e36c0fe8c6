-- `feed::walk_pairs` meets its contract. The loop's invariant: the check from the pair j on is the check of the whole table. Assumes nothing.
use mathlib.Core.Path.{◌≡◌}
use mathlib.Core.List.{[]}
use Prim.Native.Nat.{◌≤◌}
use lib.ListN.{take, drop}
use Rattle.feed.specs.Feed.{pairs_of, check_pairs}
use Rattle.feed.proofs.Pairs.{pairs_left}
use Rattle.feed.proofs.walk_pairs.Given as goal

abbrev pub invariant-loop-j : goal.invariant-loop-j
invariant-loop-j l = (l.j ≤ l.count) × (pairs_left l.feed l.class l.at l.count l.j ≡ check_pairs l.class l.at [] (take l.count (pairs_of (drop l.at l.feed))))
