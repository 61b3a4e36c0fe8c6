-- `sheet_listing::put_line` meets its contract: each turn writes one field. Assumes nothing.
use mathlib.Core.Path.{ap, ◌∙◌}
use Rattle.sheet_writer.proofs.Rows.{fields-next, fields-none}
use Rattle.sheet_writer.proofs.Putting.{putting-start, putting-same, putting-some, putting-last}
use Rattle.sheet_listing.proofs.Lines.{line_from, line-whole, field-next, line-end}
use Rattle.sheet_listing.proofs.put_line.Goals as goal

pub loop-i-init : goal.loop-i-init
loop-i-init g c =
    putting-same (line-whole _) (putting-start _ _ _)

pub loop-i-preserved : goal.loop-i-preserved
loop-i-preserved g c =
    let i = c.loop-i.i in
    let x = c.index-fields-i in
    putting-some (putting-same (ap (line_from _) (fields-next g.T.Field.text c.args.fields.now i x.result x.is c.loop-i-test.true) ∙ field-next i _ _) c.loop-i.invariant) c.put_field-k.ensures

pub returns : goal.returns
returns g c =
    putting-last (putting-same (ap (line_from _) (fields-none g.T.Field.text c.args.fields.now c.loop-i.i c.loop-i-test.false) ∙ line-end _) c.loop-i.invariant) c.put_byte.ensures
