-- `words::read_each` meets its contract. The loop's invariant: the parts before the index are read, and those from it on are left. Assumes nothing.
use native.Mathlib.Omega.{arith}
use Rattle.drawing.proofs.Encoding.{reading-start, reading-next, reading-end}
use Rattle.drawing.proofs.words.read_each.Goals as goal

pub loop-x-init : goal.loop-x-init
loop-x-init g c = reading-start

pub loop-x-preserved : goal.loop-x-preserved
loop-x-preserved g c = rw c.WORDS-from.ensures (reading-next c.loop-x.invariant (omega arith) c.read.ensures)

pub returns : goal.returns
returns g c = rw (← c.loop-x.auto.xs) (reading-end c.loop-x.invariant (omega arith))
