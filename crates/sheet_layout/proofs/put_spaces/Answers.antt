-- `sheet_layout::put_spaces` meets its contract: each turn writes one space. Assumes nothing.
use Rattle.sheet_layout.proofs.Writing.{spacing-more}
use Rattle.sheet_layout.proofs.put_spaces.Goals as goal

pub loop-i-preserved : goal.loop-i-preserved
loop-i-preserved c =
    spacing-more c.loop-i.invariant c.loop-i-test.true c.put_byte-k.ensures
