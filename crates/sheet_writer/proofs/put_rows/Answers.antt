-- `sheet_writer::put_rows` meets its contract: each turn writes the text of one row. Assumes nothing.
use mathlib.Core.Path.{◌∙◌}
use Rattle.std.proofs.Common.{rules}
use Rattle.sheet_writer.proofs.Putting.{putting-same, putting-end}
use Rattle.sheet_writer.proofs.Rows.{row-put, rows-none}
use Rattle.sheet_writer.proofs.put_rows.Goals as goal

pub loop-row-preserved : goal.loop-row-preserved
loop-row-preserved g c =
    let i = c.loop-row.invariant in
    let steps = c.in-Some.ensures.steps in
    record {
      can = search rules;
      ends = tt;
      size = steps.0 ∙ i.size;
      putting = row-put g.text c.args.picks _ _ c.requires.1.0 steps.1.0 (rw i.size at steps.1.1) steps.1.2 i.putting (c.requires.1.1.1 _ _ _ _ _ c.put_row-k.ensures);
    }

pub returns : goal.returns
returns g c =
    putting-end (putting-same (rows-none g.text c.args.picks _ c.in-None.ensures.steps.1.0) c.loop-row.invariant.putting)
