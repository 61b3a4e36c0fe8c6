-- `sheet_writer::put_rows` meets its contract: each turn writes the text of one row. Assumes nothing.
use mathlib.Core.Path.{◌≡◌}
use mathlib.Core.List.{flat_map}
use Rattle.std.specs.Slice.Iter.{chunks_rest, chunks_size}
use Rattle.sheet_writer.specs.Parts.{parts_of}
use Rattle.sheet_writer.proofs.Putting.{Putting}
use Rattle.sheet_writer.proofs.put_rows.Given as goal

abbrev pub invariant-loop-row : goal.invariant-loop-row
invariant-loop-row g l = record {
  can : (goal.iterator-loop-row g).can_next l.row-iterator;
  ends : (goal.iterator-loop-row g).is_finite l.row-iterator;
  size : chunks_size l.row-iterator ≡ l.picks;
  putting : Putting l.initial.out l.out l.at (flat_map g.text (parts_of l.picks l.rows)) (flat_map g.text (parts_of l.picks (chunks_rest l.row-iterator))) l.k;
}
