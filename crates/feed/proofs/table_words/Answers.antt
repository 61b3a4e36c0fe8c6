-- `feed::table_words` meets its contract. The loop's invariant: the table k is the table k - j of those from j on, which start at `start`.
-- Assumes nothing.
use mathlib.Core.Path.{◌≡◌, ◌∙◌}
use Prim.Native.Nat.{◌+◌, ◌*◌, ◌-◌, ◌<◌, ◌≤◌}
use native.Mathlib.Omega.{arith}
use lib.ListN.{length}
use Rattle.feed.specs.Feed.{table_count, counts}
use Rattle.feed.proofs.Feed.{feed-accepted}
use Rattle.feed.proofs.Words.{tables-from-start, ends-start, ends-inside, ends_next, table-later, table_here, stored-words}
use Rattle.feed.proofs.Checks.{count_small}
use Rattle.feed.proofs.table_words.Goals as goal

pub table_count-start-requires : goal.table_count-start-requires
unfolding table_count
table_count-start-requires c =
    let ok = feed-accepted _ c.requires.checked in omega arith

pub overflow_add-start : goal.overflow_add-start
overflow_add-start c =
    let ok = feed-accepted _ c.requires.checked in omega arith

pub loop-j-init : goal.loop-j-init
loop-j-init c =
    let a = c.args in
    let ok = feed-accepted _ c.requires.checked in
    let e : a.k - 0 ≡ a.k = omega arith in
    (omega arith, rw c.table_count-start.ensures (ends-start a.feed.now ok.exact), rw (c.table_count-start.ensures, e, tables-from-start))

pub size_at-requires : goal.size_at-requires
size_at-requires c =
    let ok = feed-accepted _ c.requires.checked in omega arith

pub overflow_mul-start : goal.overflow_mul-start
overflow_mul-start c =
    let inside : c.loop-j.start + 2 * c.size_at.result ≤ length c.args.feed.now =
    let a = c.args in
    let ok = feed-accepted _ c.requires.checked in
    rw c.size_at.ensures (ends-inside a.feed.now ok.counted c.loop-j.j c.loop-j.start (omega arith) c.loop-j.invariant.1) in
    omega (arith, inside)

pub overflow_add-start-in-loop-j : goal.overflow_add-start-in-loop-j
overflow_add-start-in-loop-j c =
    let inside : c.loop-j.start + 2 * c.size_at.result ≤ length c.args.feed.now =
    let a = c.args in
    let ok = feed-accepted _ c.requires.checked in
    rw c.size_at.ensures (ends-inside a.feed.now ok.counted c.loop-j.j c.loop-j.start (omega arith) c.loop-j.invariant.1) in
    omega (arith, inside)

pub loop-j-preserved : goal.loop-j-preserved
loop-j-preserved c =
    let a = c.args in
    let ok = feed-accepted _ c.requires.checked in (
      omega arith,
      rw c.size_at.ensures (ends_next a.feed.now ok.counted c.loop-j.j c.loop-j.start (omega arith) c.loop-j.invariant.1),
      rw c.size_at.ensures (table-later a.feed.now ok.counted c.loop-j.j c.loop-j.start (omega arith) a.k (omega arith) ∙ c.loop-j.invariant.2),
    )

pub size_at-requires-2 : goal.size_at-requires-2
size_at-requires-2 c =
    let ok = feed-accepted _ c.requires.checked in omega arith

pub overflow_mul-result : goal.overflow_mul-result
overflow_mul-result c =
    let feed = c.args.feed.now in
    let ok = feed-accepted feed c.requires.checked in
    let e : c.loop-j.j ≡ c.args.k = omega arith in
    let inside : c.loop-j.start + 2 * c.size_at-2.result ≤ length feed =
    rw c.size_at-2.ensures (ends-inside feed ok.counted c.args.k c.loop-j.start (omega arith) (rw e at c.loop-j.invariant.1)) in
    omega (arith, inside)

pub overflow_add-result : goal.overflow_add-result
overflow_add-result c =
    let feed = c.args.feed.now in
    let ok = feed-accepted feed c.requires.checked in
    let e : c.loop-j.j ≡ c.args.k = omega arith in
    let inside : c.loop-j.start + 2 * c.size_at-2.result ≤ length feed =
    rw c.size_at-2.ensures (ends-inside feed ok.counted c.args.k c.loop-j.start (omega arith) (rw e at c.loop-j.invariant.1)) in
    omega (arith, inside)

pub slice_bounds-result-end : goal.slice_bounds-result-end
slice_bounds-result-end c =
    let feed = c.args.feed.now in
    let ok = feed-accepted feed c.requires.checked in
    let e : c.loop-j.j ≡ c.args.k = omega arith in
    let inside : c.loop-j.start + 2 * c.size_at-2.result ≤ length feed =
    rw c.size_at-2.ensures (ends-inside feed ok.counted c.args.k c.loop-j.start (omega arith) (rw e at c.loop-j.invariant.1)) in
    omega (arith, inside)

pub returns : goal.returns
returns c =
    let start = c.loop-j.start in
    let a = c.args in
    let feed = a.feed.now in
    let ok = feed-accepted feed c.requires.checked in
    let l : a.k < table_count feed = omega arith in
    let e : c.loop-j.j ≡ a.k = omega arith in
    let z : start + 2 * c.size_at-2.result - start ≡ 2 * c.size_at-2.result = omega arith in
    rw z (stored-words feed start c.size_at-2.result
    (rw c.size_at-2.ensures (ends-inside feed ok.counted a.k start l (rw e at c.loop-j.invariant.1)))
    (rw c.size_at-2.ensures (count_small 2 (counts feed) a.k ok.counts_checked))
    (rw c.size_at-2.ensures (table_here feed ok.counted a.k start l ∙ rw e at c.loop-j.invariant.2)))
