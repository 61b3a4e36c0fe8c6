-- `words::read_each` meets its contract. The loop's invariant: the parts before the index are read, and those from it on are left. Assumes nothing.
use Rattle.drawing.proofs.Encoding.{Reading}
use Rattle.drawing.proofs.words.read_each.Given as goal

abbrev pub invariant-loop-x : goal.invariant-loop-x
invariant-loop-x g l = Reading g.T.Part.part_of g.T.Part.WORDS l.words l.at l.xs l.from l.x-index
