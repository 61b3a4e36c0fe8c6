-- `feed::table_words` meets its contract. The loop's invariant: the table k is the table k - j of those from j on, which start at `start`.
-- Assumes nothing.
use mathlib.Core.Path.{◌≡◌}
use mathlib.Core.List.{[]}
use Prim.Native.Nat.{◌-◌, ◌≤◌}
use lib.ListN.{get_or}
use Rattle.feed.specs.Feed.{tables}
use Rattle.feed.proofs.Words.{tables_from, Ends}
use Rattle.feed.proofs.table_words.Given as goal

abbrev pub invariant-loop-j : goal.invariant-loop-j
invariant-loop-j l = (l.j ≤ l.k) × Ends l.feed l.j l.start × (get_or (tables_from l.feed l.j l.start) (l.k - l.j) [] ≡ get_or (tables l.feed) l.k [])
