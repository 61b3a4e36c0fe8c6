-- `sheet_writer::digit_count` meets its contract: each turn passes one digit. Assumes nothing.
use native.Mathlib.Omega.{arith}
use Rattle.sheet_writer.proofs.Digits.{counting_more, counting-end}
use Rattle.sheet_writer.proofs.digit_count.Goals as goal

pub loop-m-preserved : goal.loop-m-preserved
loop-m-preserved c =
    counting_more c.loop-m.invariant c.loop-m-test.true

pub returns : goal.returns
returns c =
    counting-end c.loop-m.invariant (omega (arith, c.loop-m-test.false))
