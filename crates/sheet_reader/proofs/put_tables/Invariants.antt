-- `sheet_reader::put_tables` meets its contract. The loop's invariant: the pairs of the tables passed are written. Assumes nothing.
use lib.ListN.{length}
use Rattle.tables.specs.Slices.{tables_words}
use Rattle.tables.proofs.Putting.{Putting}
use Rattle.sheet_text.specs.inner.Parts.{names_of}
use Rattle.sheet_lines.specs.inner.State.{tables_read}
use Rattle.sheet_reader.specs.Sheet.{tables_of}
use Rattle.sheet_reader.proofs.Grouping.{tables_from}
use Rattle.sheet_reader.proofs.put_tables.Given as goal

abbrev pub invariant-loop-k : goal.invariant-loop-k
invariant-loop-k l = Putting l.initial.words l.words l.at l.out (tables_words (tables_of (tables_read l.t)))
    (tables_words (tables_from (tables_read l.t).lines (length (names_of (l.t).names)) l.k))
