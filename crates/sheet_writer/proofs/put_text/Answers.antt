-- `sheet_writer::put_text` meets its contract: each turn writes the first of the bytes that are left. Assumes nothing.
use Rattle.drawing.proofs.Encoding.{left-next}
use lib.ListN.{drop_of_length-le}
use Rattle.sheet_writer.proofs.Putting.{putting-start, putting-same, putting-byte, putting-end}
use Rattle.sheet_writer.proofs.put_text.Goals as goal

pub loop-b-init : goal.loop-b-init
loop-b-init c =
    putting-start _ _ _

pub loop-b-preserved : goal.loop-b-preserved
loop-b-preserved c =
    putting-byte (putting-same (left-next c.args.text.now c.loop-b.b-index 0 c.loop-b-test.true) c.loop-b.invariant) c.put_byte-k.ensures

pub returns : goal.returns
returns c =
    putting-end (putting-same (drop_of_length-le c.args.text.now {i = c.loop-b.b-index} c.loop-b-test.false) c.loop-b.invariant)
