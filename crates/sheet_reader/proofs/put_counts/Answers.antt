-- `sheet_reader::put_counts` meets its contract. Assumes nothing.
use mathlib.Core.Path.{ap, sym}
use mathlib.Core.List.{[], ◌∷◌, map}
use native.Mathlib.Omega.{arith}
use lib.ListN.{length}
use Rattle.tables.proofs.Putting.{putting-start, putting-same, putting-more, putting-room, putting-end}
use Rattle.sheet_text.proofs.Finding.{length-names}
use Rattle.sheet_lines.specs.inner.State.{tables_read}
use Rattle.sheet_reader.specs.Sheet.{tables_of}
use Rattle.sheet_reader.proofs.Grouping.{tables-all, tables_more, tables-done}
use Rattle.sheet_reader.proofs.put_counts.Goals as goal

pub loop-k-init : goal.loop-k-init
unfolding tables_of tables_read
loop-k-init c =
    putting-same (sym (ap (map length) (tables-all _ _))) (putting-start _ _ _)

pub overflow_cast-k : goal.overflow_cast-k
overflow_cast-k c =
    let x = c.args.t.now.names in
    omega (arith, c.loop-k-test.true, c.len-k-end.ensures, length-names x, x.few)

pub put_words-out-requires : goal.put_words-out-requires
put_words-out-requires c =
    let more = ap (map length) (tables_more (tables_read c.args.t.now).lines _ c.loop-k.k (rw c.len-k-end.ensures at c.loop-k-test.true)) in
    let r = putting-room (_ ∷ []) _ more c.loop-k.invariant c.requires.room in
    omega arith

pub loop-k-preserved : goal.loop-k-preserved
loop-k-preserved c =
    putting-more (ap (map length) (tables_more _ _ c.loop-k.k (rw c.len-k-end.ensures at c.loop-k-test.true))) c.loop-k.invariant (rw (c.count_lines.ensures, c.entries.ensures) at c.put_words-out.ensures)

pub returns : goal.returns
returns c =
    putting-end (putting-same (ap (map length) (tables-done _ _ _ (rw c.len-k-end.ensures at c.loop-k-test.false))) c.loop-k.invariant)
