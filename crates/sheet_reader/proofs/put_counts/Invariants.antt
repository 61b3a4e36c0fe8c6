-- `sheet_reader::put_counts` meets its contract. The loop's invariant: the sizes of the tables passed are written. Assumes nothing.
use mathlib.Core.List.{map}
use lib.ListN.{length}
use Rattle.tables.proofs.Putting.{Putting}
use Rattle.sheet_text.specs.inner.Parts.{names_of}
use Rattle.sheet_lines.specs.inner.State.{tables_read}
use Rattle.sheet_reader.specs.Sheet.{tables_of}
use Rattle.sheet_reader.proofs.Grouping.{tables_from}
use Rattle.sheet_reader.proofs.put_counts.Given as goal

abbrev pub invariant-loop-k : goal.invariant-loop-k
invariant-loop-k l = Putting l.initial.words l.words l.at l.out (map length (tables_of (tables_read l.t)))
    (map length (tables_from (tables_read l.t).lines (length (names_of (l.t).names)) l.k))
