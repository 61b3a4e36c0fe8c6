-- `sheet_layout::put_page` meets its contract: the names, the rows, the number. Assumes nothing.
use mathlib.Core.List.{map}
use Rattle.sheet_text.specs.Text.{digits}
use Rattle.sheet_layout.specs.Pages.{column_line}
use Rattle.sheet_layout.proofs.put_page.Given as goal

abbrev pub ghost-put_rows : goal.ghost-put_rows
ghost-put_rows a = λ row. column_line (map digits row)
