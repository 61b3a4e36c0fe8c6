-- `sheet_layout::put_pages` meets its contract: the first page, then the others. Assumes nothing.
use mathlib.Core.Path.{◌∙◌}
use Prim.Native.Nat.{◌*◌}
use Rattle.limits.specs.Limits.{page_rows}
use Rattle.sheet_writer.proofs.Putting.{put_same, put_then}
use Rattle.sheet_writer.proofs.Rows.{row-first, rows-behind}
use Rattle.sheet_layout.proofs.Paging.{pages-first}
use Rattle.sheet_layout.proofs.put_pages.Goals as goal

pub returns : goal.returns
returns c =
    let rows = c.args.rows.now in
    let words = page_rows * c.args.picks in
    let front = c.split_at.ensures.front ∙ rw c.min.ensures (row-first words rows) in
    let back = c.split_at.ensures.back ∙ rw c.min.ensures (rows-behind words rows) in
    put_same (pages-first _ c.args.picks c.requires.some rows) (put_then (rw front at c.put_page-k.ensures) (rw back at c.put_more.ensures))
