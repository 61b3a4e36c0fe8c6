-- `sheet_layout::put_page` meets its contract: the names, the rows, the number. Assumes nothing.
use mathlib.Core.Path.{ap}
use Rattle.sheet_writer.proofs.Putting.{put_same, put_then}
use Rattle.sheet_layout.specs.Pages.{column_line, row_line, page}
use Rattle.sheet_layout.proofs.put_page.Goals as goal

pub returns : goal.returns
unfolding page row_line
returns c =
    put_then (put_then (put_same (ap column_line c.as_slice.ensures) c.put_columns-k.ensures) c.put_rows-m.ensures) c.put_page_number.ensures
