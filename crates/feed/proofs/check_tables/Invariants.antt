-- `feed::check_tables` meets its contract. The loop's invariant: the check from the table k on, which starts at `at`, is that of all tables, and the
-- words from `at` on are those of these tables. Assumes nothing.
use mathlib.Core.Path.{◌≡◌}
use Prim.Native.Nat.{◌+◌, ◌≤◌}
use Rattle.feed.specs.Feed.{class_count, table_count, tables, check_tables}
use Rattle.feed.proofs.Words.{Ends}
use Rattle.feed.proofs.Checks.{tables_left}
use Rattle.feed.proofs.check_tables.Given as goal

abbrev pub invariant-loop-k : goal.invariant-loop-k
invariant-loop-k l = (l.k ≤ l.n) × Ends l.feed l.k l.at × (tables_left l.feed l.k l.at ≡ check_tables (class_count l.feed) (2 + table_count l.feed) (tables l.feed))
