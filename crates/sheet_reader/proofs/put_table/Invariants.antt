-- `sheet_reader::put_table` meets its contract. The loop's invariant: the pairs of the lines passed are written. Assumes nothing.
use lib.ListN.{drop}
use Rattle.tables.specs.Slices.{table_words}
use Rattle.tables.proofs.Putting.{Putting}
use Rattle.sheet_reader.specs.Sheet.{lines_of}
use Rattle.sheet_reader.proofs.put_table.Given as goal

abbrev pub invariant-loop-x : goal.invariant-loop-x
invariant-loop-x l = Putting l.initial.words l.words l.at l.out (table_words (lines_of l.k l.entries)) (table_words (lines_of l.k (drop l.x-index l.entries)))
