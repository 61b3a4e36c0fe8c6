-- `feed::sum_counts` meets its contract. The loop's invariant: the check from the count k on, with the sum so far, is that of all counts.
-- Assumes nothing.
use mathlib.Core.Path.{◌∙◌, ap}
use Prim.Native.Nat.{ℕ, ◌+◌}
use native.Mathlib.Omega.{arith}
use Rattle.feed.proofs.Checks.{counts_left, counts-over, counts-pass, counts_end}
use Rattle.feed.proofs.sum_counts.Goals as goal

pub returns-then-count-gt-TABLE_PAIRS : goal.returns-then-count-gt-TABLE_PAIRS
returns-then-count-gt-TABLE_PAIRS c =
    let feed = c.args.feed.now in
    counts-over feed (omega arith) c.loop-k.sum c.loop-k.k (omega arith) (omega arith) ∙ c.loop-k.invariant.2

pub loop-k-preserved : goal.loop-k-preserved
loop-k-preserved c =
    let feed = c.args.feed.now in
    let k = c.loop-k.k in (
      omega arith,
      omega arith,
      ap (λ (n : ℕ). counts_left feed (c.loop-k.sum + n) (k + 1)) c.size_at-count.ensures
          ∙ counts-pass feed (omega arith) c.loop-k.sum k (omega arith) (omega arith)
          ∙ c.loop-k.invariant.2,
    )

pub returns : goal.returns
returns c =
    let feed = c.args.feed.now in
    counts_end feed (omega arith) c.loop-k.sum c.loop-k.k (omega arith) ∙ c.loop-k.invariant.2
