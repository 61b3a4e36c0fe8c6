-- `sheet_text::value_of` meets its contract. Assumes nothing.
use Rattle.sheet_text.proofs.Words.{value-starts, value-small, digit, value-goes-on, value-ends}
use native.Mathlib.Omega.{arith}
use Rattle.sheet_text.proofs.value_of.Goals as goal

pub loop-b-init : goal.loop-b-init
loop-b-init c =
    value-starts _ c.requires

pub overflow_mul-n : goal.overflow_mul-n
overflow_mul-n c =
    omega (arith, value-small c.loop-b.invariant c.loop-b.auto.b-index-end)

pub overflow_sub-n : goal.overflow_sub-n
overflow_sub-n c =
    (digit c.loop-b.invariant c.loop-b-test.true).0

pub loop-b-preserved : goal.loop-b-preserved
loop-b-preserved c =
    value-goes-on c.loop-b.invariant c.loop-b-test.true

pub returns : goal.returns
returns c =
    value-ends c.loop-b.invariant c.loop-b-test.false
