-- `feed::sum_counts` meets its contract. The loop's invariant: the check from the count k on, with the sum so far, is that of all counts.
-- Assumes nothing.
use mathlib.Core.Path.{◌≡◌}
use Prim.Native.Nat.{◌*◌, ◌≤◌}
use Rattle.limits.specs.Limits.{most_table_pairs}
use Rattle.tables.specs.Lists.{total}
use Rattle.feed.specs.Feed.{counts, check_counts}
use Rattle.feed.specs.inner.Parts.{counts_found}
use Rattle.feed.proofs.Checks.{counts_left}
use Rattle.feed.proofs.sum_counts.Given as goal

abbrev pub invariant-loop-k : goal.invariant-loop-k
invariant-loop-k l = (l.k ≤ l.n) × (l.sum ≤ most_table_pairs * l.k) × (counts_left l.feed l.sum l.k ≡ counts_found (check_counts 2 (counts l.feed)) (total (counts l.feed)))
