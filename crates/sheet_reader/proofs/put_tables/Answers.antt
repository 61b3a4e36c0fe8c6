-- `sheet_reader::put_tables` meets its contract. Assumes nothing.
use mathlib.Core.Path.{ap, sym}
use native.Mathlib.Omega.{arith}
use Rattle.tables.specs.Slices.{table_words, tables_words}
use Rattle.tables.proofs.Putting.{putting-start, putting-same, putting-more, putting-room, putting-end}
use Rattle.sheet_text.proofs.Finding.{length-names}
use Rattle.sheet_lines.specs.inner.State.{tables_read}
use Rattle.sheet_reader.specs.Sheet.{lines_of, tables_of}
use Rattle.sheet_reader.proofs.Grouping.{tables-all, tables_more, tables-done}
use Rattle.sheet_reader.proofs.put_tables.Goals as goal

pub loop-k-init : goal.loop-k-init
unfolding tables_of tables_read
loop-k-init c =
    putting-same (sym (ap tables_words (tables-all _ _))) (putting-start _ _ _)

pub overflow_cast-k : goal.overflow_cast-k
overflow_cast-k c =
    let x = c.args.t.now.names in
    omega (arith, c.loop-k-test.true, c.len-k-end.ensures, length-names x, x.few)

pub put_table-out-requires : goal.put_table-out-requires
unfolding tables_words
put_table-out-requires c =
    let es = (tables_read c.args.t.now).lines in
    let more = ap tables_words (tables_more es _ c.loop-k.k (rw c.len-k-end.ensures at c.loop-k-test.true)) in
    record { room = rw c.entries.ensures (putting-room (table_words (lines_of c.loop-k.k es)) _ more c.loop-k.invariant c.requires.room) }

pub loop-k-preserved : goal.loop-k-preserved
unfolding tables_words
loop-k-preserved c =
    putting-more (ap tables_words (tables_more _ _ c.loop-k.k (rw c.len-k-end.ensures at c.loop-k-test.true))) c.loop-k.invariant (rw c.entries.ensures at c.put_table-out.ensures)

pub returns : goal.returns
unfolding tables_words
returns c =
    putting-end (putting-same (ap tables_words (tables-done _ _ _ (rw c.len-k-end.ensures at c.loop-k-test.false))) c.loop-k.invariant)
