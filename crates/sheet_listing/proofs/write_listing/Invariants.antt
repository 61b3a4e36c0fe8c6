-- `sheet_listing::write_listing` meets its contract: a row is a line of its numbers. Assumes nothing.
use mathlib.Core.List.{map}
use Rattle.sheet_text.specs.Text.{digits}
use Rattle.sheet_listing.specs.Listing.{line}
use Rattle.sheet_listing.proofs.write_listing.Given as goal

abbrev pub ghost-put_rows : goal.ghost-put_rows
ghost-put_rows a = λ row. line (map digits row)
