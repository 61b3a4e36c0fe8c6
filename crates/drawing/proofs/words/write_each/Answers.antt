-- `words::write_each` meets its contract. The loop's invariant: the words of those from the index on are left. Assumes nothing.
use Rattle.tables.proofs.Putting.{putting-same, putting-more, putting-room, putting-end}
use Rattle.drawing.proofs.Encoding.{words-next, words-none}
use native.Mathlib.Omega.{arith}
use Rattle.drawing.proofs.words.write_each.Goals as goal

pub put-out-requires : goal.put-out-requires
put-out-requires g c =
    let next = words-next g.T.Part.words_of c.args.xs.now c.loop-x.x-index c.x-item.result c.loop-x-test.true in
    putting-room (g.T.Part.words_of c.x-item.result) _ (rw (← c.x-item.is) at next) c.loop-x.invariant c.requires

pub loop-x-preserved : goal.loop-x-preserved
loop-x-preserved g c =
    let next = words-next g.T.Part.words_of c.args.xs.now c.loop-x.x-index c.x-item.result c.loop-x-test.true in
    putting-more (rw (← c.x-item.is) at next) c.loop-x.invariant c.put-out.ensures

pub returns : goal.returns
returns g c =
    putting-end (putting-same (words-none _ _ c.loop-x.x-index (omega arith)) c.loop-x.invariant)
