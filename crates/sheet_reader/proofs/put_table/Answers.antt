-- `sheet_reader::put_table` meets its contract. Assumes nothing.
use mathlib.Core.Path.{ap}
use mathlib.Core.List.{[], ◌∷◌}
use native.Mathlib.Omega.{arith}
use Rattle.tables.specs.Slices.{table_words}
use Rattle.tables.proofs.Putting.{putting-same, putting-more, putting-room, putting-end}
use Rattle.sheet_reader.proofs.Grouping.{lines-in, lines-out, lines-done}
use Rattle.sheet_reader.proofs.put_table.Goals as goal
use Rattle.sheet_reader.proofs.put_table.Goals.{then-x-k, else-x-k}

pub put_words-out-requires : goal.put_words-out-requires
unfolding table_words
put_words-out-requires c =
    let e = lines-in c.args.k c.args.entries.now c.loop-x.x-index c.loop-x-test.true c.if-x-k.true in
    let r = putting-room (_ ∷ _ ∷ []) _ (ap table_words e) c.loop-x.invariant c.requires.room in
    omega arith

pub loop-x-preserved : goal.loop-x-preserved
unfolding table_words
loop-x-preserved c =
    elim c.if-x-k.branch [
      | then-x-k w ↦
          rw (w.words-is, w.out-is) (putting-more (ap table_words (lines-in c.args.k c.args.entries.now c.loop-x.x-index c.loop-x-test.true w.if-x-k.true)) c.loop-x.invariant w.put_words-out.ensures)
      | else-x-k w ↦
          rw (w.words-is, w.out-is) (putting-same (ap table_words (lines-out c.args.k c.args.entries.now c.loop-x.x-index c.loop-x-test.true w.if-x-k.false)) c.loop-x.invariant)
    ]

pub returns : goal.returns
unfolding table_words
returns c =
    putting-end (putting-same (ap table_words (lines-done c.args.k c.args.entries.now c.loop-x.x-index c.loop-x-test.false)) c.loop-x.invariant)
