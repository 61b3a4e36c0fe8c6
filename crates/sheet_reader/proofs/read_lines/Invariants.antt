-- `sheet_reader::read_lines` meets its contract. The loop's invariant: reading the rest from the state is reading the sheet. Assumes nothing.
use lib.ListN.{length}
use Rattle.sheet_reader.proofs.Lines.{Going}
use Rattle.sheet_reader.proofs.read_lines.Given as goal

abbrev pub invariant-loop-line : goal.invariant-loop-line
invariant-loop-line l = Going l.sheet l.rest l.at l.state

abbrev pub decreases-loop-line : goal.decreases-loop-line
decreases-loop-line l = length l.rest
