-- `sheet_reader::put_label_counts` meets its contract. Assumes nothing.
use mathlib.Core.Path.{ap}
use mathlib.Core.List.{map}
use native.Mathlib.Omega.{arith}
use lib.ListN.{length, drop, length-map}
use Rattle.tables.specs.Lists.{placed}
use Rattle.sheet_text.specs.inner.Parts.{texts}
use Rattle.feed.specs.Feed.{label_word}
use Rattle.tables.proofs.Putting.{putting-start, putting-same, putting-more, putting-end}
use Rattle.sheet_text.proofs.Finding.{length-names}
use Rattle.sheet_lines.specs.inner.State.{tables_read}
use Rattle.sheet_reader.specs.Sheet.{label_of, labels_of}
use Rattle.sheet_reader.proofs.Grouping.{labels-more, labels-done, labels-some}
use Rattle.sheet_reader.proofs.put_label_counts.Goals as goal

pub loop-k-init : goal.loop-k-init
unfolding labels_of tables_read
loop-k-init c =
    putting-start _ _ _

pub overflow_cast-k : goal.overflow_cast-k
overflow_cast-k c =
    let x = c.args.t.now.names in
    let l = ap length c.as_slice-names.ensures in
    omega (arith, c.loop-k-test.true, length-map c.as_slice-names.result.now (λ t. t.now), length-names x, x.few)

pub put_words-out-requires : goal.put_words-out-requires
put_words-out-requires c =
    let es = (tables_read c.args.t.now).lines in
    let left = rw (← c.as_slice-names.ensures) at c.loop-k.invariant in
    let some = labels-some es c.as_slice-names.result.now c.loop-k.k c.loop-k-test.true in
    omega (arith, left.count, left.size, c.requires.room, length-map (placed (label_of es) c.loop-k.k (drop c.loop-k.k (texts c.as_slice-names.result.now))) label_word)

pub loop-k-preserved : goal.loop-k-preserved
loop-k-preserved c =
    let es = (tables_read c.args.t.now).lines in
    let left = rw (← c.as_slice-names.ensures) at c.loop-k.invariant in
    let more = ap (map label_word) (labels-more es c.as_slice-names.result.now c.loop-k.k _ c.loop-k-test.true) in
    rw (← c.as_slice-names.ensures) (putting-more more left (rw (c.label_word.ensures, c.entries.ensures) at c.put_words-out.ensures))

pub returns : goal.returns
returns c =
    let es = (tables_read c.args.t.now).lines in
    let left = rw (← c.as_slice-names.ensures) at c.loop-k.invariant in
    putting-end (putting-same (ap (map label_word) (labels-done es c.as_slice-names.result.now c.loop-k.k c.loop-k-test.false)) left)
