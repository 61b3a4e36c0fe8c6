-- `words::write_each` meets its contract. The loop's invariant: the words of those from the index on are left. Assumes nothing.
use mathlib.Core.List.{flat_map}
use lib.ListN.{drop}
use Rattle.tables.proofs.Putting.{Putting}
use Rattle.drawing.proofs.words.write_each.Given as goal

abbrev pub invariant-loop-x : goal.invariant-loop-x
invariant-loop-x g l =
    let write = g.T.Part.words_of in
    Putting l.initial.words l.words l.at l.out (flat_map write l.xs) (flat_map write (drop l.x-index l.xs))
