-- Pages: rows on paper (document 02, E2).
--
-- In order: text set right; a line; a page; the pages of names and rows, and their number. Assumes nothing.
use Rattle.std.specs.Prelude.{ℕ, ◌+◌, ◌*◌, ◌-◌, ◌/◌, length, take, drop, replicate}
use mathlib.Core.List.{List, [], ◌∷◌, ◌++◌, map, flat_map}
use Rattle.limits.specs.Limits.{most_columns, column_width, line_width, page_rows}
use Rattle.sheet_text.specs.Text.{bytes, digits}
use Rattle.sheet_writer.specs.Parts.{parts_of}

-- spaces, then the text, so many characters in all
unfoldable pub set_right : ℕ → List ℕ → List ℕ
set_right width text = replicate (width - length text) 32 ++ text

-- "up to five columns of 13, names and numbers set right, spaces after the last column", and a line feed
unfoldable pub column_line : List (List ℕ) → List ℕ
column_line fields = flat_map (set_right column_width) fields ++ replicate (column_width * (most_columns - length fields)) 32 ++ (10 ∷ [])

unfoldable pub row_line : List ℕ → List ℕ
row_line row = column_line (map digits row)

-- "`page`, a space and its number from 1, set right to character 65"
unfoldable pub number_line : ℕ → List ℕ
number_line k = set_right line_width (bytes "page " ++ digits k) ++ (10 ∷ [])

-- "A page has the names, 50 rows (the last page 1 to 50), and" its number
unfoldable pub page : ℕ → List (List ℕ) → List (List ℕ) → List ℕ
page k names rows = column_line names ++ flat_map row_line rows ++ number_line k

-- the pages from number k on, each with its rows
unfoldable pub pages_from : ℕ → List (List ℕ) → List (List (List ℕ)) → List ℕ
pages_from k names [] = []
pages_from k names (rows ∷ rest) = page k names rows ++ pages_from (k + 1) names rest

-- "No rows makes one page": the first page is there whatever it holds, another only where rows are left
unfoldable pub pages : List (List ℕ) → List (List ℕ) → List ℕ
pages names rows = page 1 names (take page_rows rows) ++ pages_from 2 names (parts_of page_rows (drop page_rows rows))

-- how many pages so many rows make
unfoldable pub page_count : ℕ → ℕ
page_count rows = 1 + (rows - 1) / page_rows
