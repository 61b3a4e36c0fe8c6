-- `sheet_layout::put_columns` meets its contract: each turn writes one field. Assumes nothing.
use mathlib.Core.List.{map}
use lib.ListN.{drop}
use Rattle.sheet_writer.proofs.Putting.{Putting}
use Rattle.sheet_layout.specs.Pages.{column_line}
use Rattle.sheet_layout.proofs.Writing.{line_left}
use Rattle.sheet_layout.proofs.put_columns.Given as goal

abbrev pub invariant-loop-field : goal.invariant-loop-field
invariant-loop-field g l =
    let text = g.T.Field.text in
    Putting l.initial.out l.out l.at (column_line (map text l.fields)) (line_left l.field-index (map text (drop l.field-index l.fields))) l.k
