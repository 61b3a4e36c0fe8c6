-- `sheet_layout::put_columns` meets its contract: each turn writes one field. Assumes nothing.
use mathlib.Core.Path.{◌≡◌, ap, ◌∙◌}
use native.Mathlib.Omega.{arith}
use lib.ListN.{length}
use Rattle.sheet_writer.proofs.Rows.{fields-next, fields-none}
use Rattle.sheet_writer.proofs.Putting.{putting-start, putting-same, putting-some, putting-last}
use Rattle.sheet_layout.proofs.Writing.{line_left, left-whole, left-next, left_end}
use Rattle.sheet_layout.proofs.put_columns.Goals as goal

pub loop-field-init : goal.loop-field-init
loop-field-init g c =
    putting-same (left-whole _) (putting-start _ _ _)

pub loop-field-preserved : goal.loop-field-preserved
loop-field-preserved g c =
    let i = c.loop-field.field-index in
    let x = c.field-item in
    putting-some (putting-same (ap (line_left i) (fields-next g.T.Field.text c.args.fields.now i x.result x.is c.loop-field-test.true) ∙ left-next i _ _) c.loop-field.invariant) c.put_column-k.ensures

pub returns : goal.returns
returns g c =
    let i = c.loop-field.field-index in
    let all : i ≡ length c.args.fields.now = omega (arith, c.loop-field-test.false, c.loop-field.auto.field-index-end) in
    putting-last (putting-same (ap (line_left i) (fields-none g.T.Field.text c.args.fields.now i c.loop-field-test.false) ∙ left_end i) c.loop-field.invariant) (rw (← all) at c.end_line.ensures)
