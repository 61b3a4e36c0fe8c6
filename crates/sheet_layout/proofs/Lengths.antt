-- Lengths: how long lines and pages are.
--
-- In order: what is made of each element; text set right; a line of columns, of a row, of a page's number; a page, and pages; the rows of each page, and
-- how many pages there are; what is printable. Assumes nothing.
use Prim.Native.Nat.{ℕ, ◌+◌, ◌*◌, ◌-◌, ◌≤◌}
use native.Mathlib.Omega.{arith}
use native.Mathlib.Nat.{mul-suc}
use mathlib.Core.Bool.{true}
use mathlib.Core.Path.{◌≡◌, refl, sym, ap, ◌∙◌}
use mathlib.Core.List.Memᴰ
use mathlib.Core.List.Memᴰ.{head as here}
use mathlib.Core.List.Memᴰ.{tail as there}
use mathlib.Core.List.{List, [], ◌∷◌, ◌++◌, map, flat_map}
use lib.ListN.{length, take, drop, replicate, length-append, length-map, length-replicate, take-append-drop}
use Rattle.limits.specs.Limits.{largest_object, most_columns, column_width, line_width, page_rows, most_letters}
use Rattle.tables.specs.Lists.{◌∈◌, all}
use Rattle.tables.proofs.Members.{in_map}
use Rattle.tables.proofs.Tests.{both_true}
use Rattle.sheet_text.specs.Text.{bytes, digits, is_name, within}
use Rattle.sheet_text.proofs.Words.{within-is}
use Rattle.sheet_writer.specs.Parts.{parts_of}
use Rattle.sheet_writer.proofs.Digits.{object-digits, word-digits}
use Rattle.sheet_writer.proofs.Parts.{parts_none, parts_next, parts_whole, parts-count}
use Rattle.sheet_layout.specs.Pages.{set_right, column_line, row_line, number_line, page, pages_from, pages, page_count}
use Rattle.sheet_layout.specs.ReadBack.{Printable}

-- what is made of each element, all of one width
flat-length : {A B : Type 0} (width : ℕ) (f : A → List B) (xs : List A) → ((x : A) → x ∈ xs → length (f x) ≡ width) → length (flat_map f xs) ≡ width * length xs
unfolding flat_map
flat-length width f [] h = omega arith
flat-length width f (x ∷ xs) h =
    let a = length-append (f x) (flat_map f xs) in
    let one = h x (here refl) in
    let rest = flat-length width f xs (λ y m. h y (there m)) in
    omega (arith, mul-suc width (length xs))

-- ---- lines

pub right-length : (width : ℕ) (text : List ℕ) → length text ≤ width → length (set_right width text) ≡ width
unfolding set_right
right-length width text h =
    let a = length-append (replicate (width - length text) 32) text in
    let r = length-replicate {A = ℕ} (width - length text) 32 in
    omega arith

-- a line of fields that fit their columns
pub column-length : (fields : List (List ℕ)) → length fields ≤ most_columns → ((f : List ℕ) → f ∈ fields → length f ≤ column_width) → length (column_line fields) ≡ line_width + 1
unfolding column_line
column-length fields few short =
    let left = flat_map (set_right column_width) fields in
    let right : List ℕ = replicate (column_width * (most_columns - length fields)) 32 in
    let f = flat-length column_width (set_right column_width) fields (λ x m. right-length column_width x (short x m)) in
    let r = length-replicate {A = ℕ} (column_width * (most_columns - length fields)) 32 in
    let a = length-append left right in
    let b = length-append (left ++ right) (10 ∷ []) in
    omega arith

-- the digits of objects fit a column
pub objects-short : (r : List ℕ) → ((x : ℕ) → x ∈ r → x ≤ largest_object) → (f : List ℕ) → f ∈ map digits r → length f ≤ column_width
objects-short r h f m =
    let x = (in_map digits r).0 m in
    let d = object-digits x.0 (h x.0 x.1) in
    let e = ap length x.2 in
    omega arith

pub row-length : (r : List ℕ) → length r ≤ most_columns → ((x : ℕ) → x ∈ r → x ≤ largest_object) → length (row_line r) ≡ line_width + 1
unfolding row_line
row-length r few h = let l = length-map r digits in column-length (map digits r) (omega arith) (objects-short r h)

-- the word and any number have at most 15 characters
pub number_short : (k : ℕ) → length (bytes "page " ++ digits k) ≤ 15
unfolding bytes
number_short k = let d = word-digits k in omega arith

pub number-length : (k : ℕ) → length (number_line k) ≡ line_width + 1
unfolding number_line
number-length k =
    let text = bytes "page " ++ digits k in
    let s = number_short k in
    let r = right-length line_width text (omega arith) in
    let a = length-append (set_right line_width text) (10 ∷ []) in
    omega arith

-- ---- pages

-- a line for each row and two more
page-length : (k : ℕ) (names rows : List (List ℕ)) → length (column_line names) ≡ line_width + 1 → ((r : List ℕ) → r ∈ rows → length (row_line r) ≡ line_width + 1)
    → length (page k names rows) ≡ (line_width + 1) * (2 + length rows)
unfolding page
page-length k names rows n h =
    let f = flat-length (line_width + 1) row_line rows h in
    let m = number-length k in
    let a = length-append (column_line names) (flat_map row_line rows) in
    let b = length-append (column_line names ++ flat_map row_line rows) (number_line k) in
    omega arith

-- `sheets` are the rows of each page
pages-from-length : (k : ℕ) (names : List (List ℕ)) (sheets : List (List (List ℕ))) → length (column_line names) ≡ line_width + 1
    → ((r : List ℕ) → r ∈ flat_map (λ p. p) sheets → length (row_line r) ≡ line_width + 1)
    → length (pages_from k names sheets) ≡ (line_width + 1) * (2 * length sheets + length (flat_map (λ p. p) sheets))
unfolding pages_from flat_map
pages-from-length k names [] n h = refl
pages-from-length k names (rows ∷ rest) n h =
    let after : List (List ℕ) = flat_map (λ p. p) rest in
    let p = page-length k names rows n (λ r m. h r (Memᴰ.append_left after m)) in
    let q = pages-from-length (k + 1) names rest n (λ r m. h r (Memᴰ.append_right rows m)) in
    let a = length-append (page k names rows) (pages_from (k + 1) names rest) in
    let b = length-append rows after in
    omega arith

-- ---- the rows of each page

unfoldable pub sheets_of : List (List ℕ) → List (List (List ℕ))
sheets_of rows = take page_rows rows ∷ parts_of page_rows (drop page_rows rows)

-- the first page is one of the pages
pub pages-sheets : (names rows : List (List ℕ)) → pages names rows ≡ pages_from 1 names (sheets_of rows)
unfolding pages sheets_of pages_from
pages-sheets names rows = refl

-- together they are all rows
pub sheets-whole : (rows : List (List ℕ)) → flat_map (λ p. p) (sheets_of rows) ≡ rows
unfolding sheets_of flat_map
sheets-whole rows = rw (parts_whole page_rows (drop page_rows rows) (omega arith)) (take-append-drop page_rows rows)

-- as many as there are pages
sheets-count : (rows : List (List ℕ)) → length (sheets_of rows) ≡ page_count (length rows)
unfolding sheets_of page_count
sheets-count [] = rw (parts_none page_rows)
sheets-count (r ∷ rs) =
    ap length (sym (parts_next page_rows (r ∷ rs) (omega arith) (omega arith))) ∙ parts-count page_rows (r ∷ rs) (omega arith) (omega arith)

-- ---- what is printable

-- names fit a column
pub name-short : (name : List ℕ) → is_name name ≡ true → length name ≤ column_width
unfolding is_name
name-short name t = let w = (within-is 1 most_letters (length name) ((both_true (within 1 most_letters (length name)) (all (within 97 122) name)).0 t).0).1 in omega arith

module _ {names rows : List (List ℕ)} (p : Printable names rows) where
  pub names-length : length (column_line names) ≡ line_width + 1
  names-length = column-length names p.few (λ n m. name-short n (p.letters n m))

  pub rows-length : (r : List ℕ) → r ∈ rows → length (row_line r) ≡ line_width + 1
  rows-length r m = row-length r (p.most r m) (p.objects r m)

  pub pages-length : length (pages names rows) ≡ (line_width + 1) * (2 * page_count (length rows) + length rows)
  pages-length =
      ap length (pages-sheets names rows)
      ∙ pages-from-length 1 names (sheets_of rows) names-length (λ r m. rows-length r (rw (sheets-whole rows) at m))
      ∙ rw (sheets-count rows, sheets-whole rows)
