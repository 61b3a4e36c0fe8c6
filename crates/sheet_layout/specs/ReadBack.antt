-- ReadBack: the rows that a reader finds on pages, who knows the columns alone (document 02, E2: "Read back by columns, the row lines are the
-- query's rows in order and nothing more").
--
-- In order: the text of a column; the columns of a line; the row of a line, where it has one; all rows; what pages can hold. Assumes nothing.
use Rattle.std.specs.Prelude.{ℕ, ◌+◌, ◌≤◌, true, cond, ◌≡◌, eqb, length, get_or, take}
use mathlib.Core.List.{List, [], ◌∷◌, map, flat_map}
use Rattle.limits.specs.Limits.{largest_object, most_columns, column_width, line_width}
use Rattle.tables.specs.Lists.{◌∈◌, keep}
use Rattle.sheet_text.specs.Text.{is_name, is_number, value_of}
use Rattle.sheet_writer.specs.Parts.{parts_of}

-- what stands behind the spaces
unfoldable pub unspaced : List ℕ → List ℕ
unspaced [] = []
unspaced (b ∷ bs) = cond (eqb b 32) (unspaced bs) (b ∷ bs)

unfoldable pub columns : List ℕ → List (List ℕ)
columns line = map unspaced (parts_of column_width (take line_width line))

-- a line with a number in its first column is a row, of the numbers in its columns
unfoldable pub row_in : List (List ℕ) → List (List ℕ)
row_in fields = cond (is_number (get_or fields 0 [])) (map value_of (keep is_number fields) ∷ []) []

-- a line is 65 characters and a line feed
unfoldable pub read_back : List ℕ → List (List ℕ)
read_back text = flat_map (λ line. row_in (columns line)) (parts_of (line_width + 1) text)

-- what pages can hold: up to five names of up to 12 letters, and rows of one to five numbers below 65,536
pub record Printable (names rows : List (List ℕ)) : Type 0 where
  pub few : length names ≤ most_columns
  pub letters : (n : List ℕ) → n ∈ names → is_name n ≡ true
  pub some : (r : List ℕ) → r ∈ rows → 1 ≤ length r
  pub most : (r : List ℕ) → r ∈ rows → length r ≤ most_columns
  pub objects : (r : List ℕ) → r ∈ rows → (x : ℕ) → x ∈ r → x ≤ largest_object
