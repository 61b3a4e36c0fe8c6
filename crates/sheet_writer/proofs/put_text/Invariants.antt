-- `sheet_writer::put_text` meets its contract: each turn writes the first of the bytes that are left. Assumes nothing.
use lib.ListN.{drop}
use Rattle.sheet_writer.proofs.Putting.{Putting}
use Rattle.sheet_writer.proofs.put_text.Given as goal

abbrev pub invariant-loop-b : goal.invariant-loop-b
invariant-loop-b l = Putting l.initial.out l.out l.at l.text (drop l.b-index l.text) l.k
