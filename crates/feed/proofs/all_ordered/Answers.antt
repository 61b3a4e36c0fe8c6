-- `feed::all_ordered` meets its contract: the flag says of the pairs passed that they are as they must be. Assumes nothing.
use native.Mathlib.Omega.{arith}
use Rattle.feed.proofs.Passing.{packed_small, passing-first, passing-next}
use Rattle.feed.proofs.all_ordered.Goals as goal

pub loop-j-init : goal.loop-j-init
loop-j-init c =
    (omega (arith, c.if-count-eq0.false), passing-first c.pair_from-first.ensures c.is_small-good.ensures (packed_small c.pack-last.ensures))

pub loop-j-preserved : goal.loop-j-preserved
loop-j-preserved c =
    let v = c.loop-j.invariant in
    (omega (arith, c.loop-j-test.true), passing-next v.1 c.pair_from-p.ensures c.is_small.ensures (packed_small c.pack-number.ensures))
