-- `feed::check_tables` meets its contract. The loop's invariant: the check from the table k on, which starts at `at`, is that of all tables, and the
-- words from `at` on are those of these tables. Assumes nothing.
use mathlib.Core.Path.{◌∙◌}
use Prim.Native.Nat.{◌+◌, ◌*◌, ◌≤◌}
use native.Mathlib.Omega.{arith}
use lib.ListN.{length}
use Rattle.feed.specs.Feed.{class_count}
use Rattle.answers.specs.Answers.{verdict_of}
use Rattle.answers.proofs.Refusing.{leaves, stands, handed}
use Rattle.feed.proofs.Words.{ends-start, ends-inside, ends_next}
use Rattle.feed.proofs.Checks.{tables_start, tables-turn, tables_end}
use Rattle.feed.proofs.check_tables.Goals as goal

pub loop-k-init : goal.loop-k-init
loop-k-init c =
    let feed = c.args.feed.now in
    (omega arith, rw c.table_count-n.ensures (ends-start feed c.requires.exact), rw c.table_count-n.ensures (tables_start feed))

pub check_pairs-requires : goal.check_pairs-requires
check_pairs-requires c =
    let inside : c.loop-k.at + 2 * c.size_at-count.result ≤ length c.args.feed.now = let feed = c.args.feed.now in rw c.size_at-count.ensures (ends-inside feed (omega arith) c.loop-k.k c.loop-k.at (omega arith) c.loop-k.invariant.1) in
    record { inside = inside; short = omega arith }

pub returns-in_err-check_pairs : goal.returns-in_err-check_pairs
unfolding class_count
returns-in_err-check_pairs c =
    let feed = c.args.feed.now in
    let turn = tables-turn feed (omega arith) c.loop-k.k c.loop-k.at
    (omega arith) c.loop-k.invariant.1 c.word-classes.ensures c.size_at-count.ensures c.check_pairs.ensures ∙ c.loop-k.invariant.2 in
    handed c.from_residual.result _ c.from_residual.ensures.1 ∙ stands _ _ c.in_err-check_pairs.was ∙ turn

pub overflow_mul-at : goal.overflow_mul-at
overflow_mul-at c =
    let inside : c.loop-k.at + 2 * c.size_at-count.result ≤ length c.args.feed.now = let feed = c.args.feed.now in rw c.size_at-count.ensures (ends-inside feed (omega arith) c.loop-k.k c.loop-k.at (omega arith) c.loop-k.invariant.1) in
    omega (arith, inside)

pub overflow_add-at-in-loop-k : goal.overflow_add-at-in-loop-k
overflow_add-at-in-loop-k c =
    let inside : c.loop-k.at + 2 * c.size_at-count.result ≤ length c.args.feed.now = let feed = c.args.feed.now in rw c.size_at-count.ensures (ends-inside feed (omega arith) c.loop-k.k c.loop-k.at (omega arith) c.loop-k.invariant.1) in
    omega (arith, inside)

pub loop-k-preserved : goal.loop-k-preserved
unfolding class_count
loop-k-preserved c =
    let feed = c.args.feed.now in
    let turn = tables-turn feed (omega arith) c.loop-k.k c.loop-k.at
    (omega arith) c.loop-k.invariant.1 c.word-classes.ensures c.size_at-count.ensures c.check_pairs.ensures ∙ c.loop-k.invariant.2 in (
      omega arith,
      rw c.size_at-count.ensures (ends_next feed (omega arith) c.loop-k.k c.loop-k.at (omega arith) c.loop-k.invariant.1),
      leaves _ _ c.in_ok-check_pairs.was ∙ turn,
    )

pub returns : goal.returns
unfolding verdict_of
returns c =
    let feed = c.args.feed.now in
    tables_end feed (omega arith) c.loop-k.k c.loop-k.at (omega arith) ∙ c.loop-k.invariant.2
