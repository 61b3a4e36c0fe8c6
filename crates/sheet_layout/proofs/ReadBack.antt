-- ReadBack: the rows that a reader finds on pages are the rows that were printed.
--
-- In order: text behind spaces; the columns of a line; which columns are numbers; the row of a line of each kind; lines read one after another, and a
-- page; the pages of names and rows. Assumes nothing.
use Prim.Native.Nat.{ℕ, zero, suc, ◌+◌, ◌*◌, ◌-◌, ◌≤◌}
use native.Mathlib.Omega.{arith}
use native.Mathlib.Nat.{mul-suc}
use mathlib.Core.Bool.{Bool, true, false, ◌&&◌}
use mathlib.Core.Path.{◌≡◌, refl, sym, ap, ◌∙◌}
use mathlib.Core.List.Memᴰ
use mathlib.Core.List.Memᴰ.{head as here}
use mathlib.Core.List.Memᴰ.{tail as there}
use mathlib.Core.List.{List, [], ◌∷◌, ◌++◌, map, flat_map, append_assoc, append-nil}
use lib.ListN.{length, get_or, take, drop, replicate, length-append, length-map, length-replicate, replicate-append-replicate}
use lib.Seq.{take_at}
use borrow.Author.Tests.{ne_eqb}
use Rattle.limits.specs.Limits.{largest_object, most_columns, column_width, line_width, most_digits, most_letters}
use Rattle.tables.specs.Lists.{◌∈◌, keep, all}
use Rattle.tables.proofs.Members.{in_map}
use Rattle.tables.proofs.Tests.{both_true}
use Rattle.sheet_text.specs.Text.{bytes, digits, within, is_name, is_number, no_leading_zero, value_of}
use Rattle.sheet_text.proofs.Words.{within-is, too-high, number}
use Rattle.sheet_writer.specs.Parts.{parts_of}
use Rattle.sheet_writer.proofs.Parts.{parts_none, parts_next, parts-append, parts-flat}
use Rattle.sheet_layout.specs.Pages.{set_right, column_line, row_line, number_line, page, pages_from, pages}
use Rattle.sheet_layout.specs.ReadBack.{unspaced, columns, row_in, read_back, Printable}
use Rattle.sheet_layout.proofs.Lengths.{right-length, column-length, objects-short, number_short, number-length, name-short, sheets_of, pages-sheets, sheets-whole, names-length, rows-length}
use Rattle.sheet_layout.proofs.DigitsBack.{digits_number, digits-back}

-- ---- text behind spaces

-- any number of spaces before a text
spaces-off : (n : ℕ) (text : List ℕ) → unspaced (replicate n 32 ++ text) ≡ unspaced text
unfolding unspaced
spaces-off zero text = refl
spaces-off (suc n) text = spaces-off n text

right-off : (width : ℕ) (text : List ℕ) → unspaced (set_right width text) ≡ unspaced text
unfolding set_right
right-off width text = spaces-off (width - length text) text

-- characters behind the space
solid : (low high : ℕ) (text : List ℕ) → 33 ≤ low → all (within low high) text ≡ true → unspaced text ≡ text
unfolding unspaced all
solid low high [] h t = refl
solid low high (b ∷ bs) h t =
    let w = (within-is low high b ((both_true (within low high b) (all (within low high) bs)).0 t).0).0 in
    rw (ne_eqb b 32 (λ e. omega arith))

-- text set right starts with spaces
right-start : (n width : ℕ) (text : List ℕ) → n + length text ≤ width → take n (set_right width text) ≡ set_right n []
unfolding set_right
right-start n width text h =
    let left = width - length text - n in
    let e : width - length text ≡ n + left = omega arith in
    let z : n - 0 ≡ n = omega arith in
    let s : List ℕ = replicate n 32 in
    rw (e, z, ← (replicate-append-replicate {A = ℕ} n left 32), append-nil s, append_assoc s (replicate left 32) text)
    (take_at s (replicate left 32 ++ text) n (length-replicate {A = ℕ} n 32))

-- ---- the columns of a line

-- the fields, then columns with nothing in them
unfoldable extended : List (List ℕ) → List (List ℕ)
extended fields = fields ++ replicate (most_columns - length fields) []

-- columns with nothing in them are spaces
blank-columns : (width m : ℕ) → flat_map (set_right width) (replicate m []) ≡ replicate (width * m) 32
unfolding flat_map set_right
blank-columns width zero = let z : width * 0 ≡ 0 = omega arith in rw z
blank-columns width (suc m) =
    let z : width - 0 ≡ width = omega arith in
    let e : width * suc m ≡ width + width * m = omega (arith, mul-suc width m) in
    rw (z, append-nil (replicate {A = ℕ} width 32), blank-columns width m, e) (replicate-append-replicate {A = ℕ} width (width * m) 32)

-- so the spaces after the last column are columns, too
columns-then-blank : (width m : ℕ) (fields : List (List ℕ)) → flat_map (set_right width) (fields ++ replicate m []) ≡ flat_map (set_right width) fields ++ replicate (width * m) 32
unfolding flat_map
columns-then-blank width m [] = blank-columns width m
columns-then-blank width m (f ∷ fs) =
    ap (λ (r : List ℕ). set_right width f ++ r) (columns-then-blank width m fs)
    ∙ sym (append_assoc (set_right width f) (flat_map (set_right width) fs) (replicate (width * m) 32))

-- what holds of each field and of a blank one
of-extended : (P : List ℕ → Type 0) (fields : List (List ℕ)) (m : ℕ) → P [] → ((f : List ℕ) → f ∈ fields → P f) → (f : List ℕ) → f ∈ (fields ++ replicate m []) → P f
of-extended P [] zero blank each f i = elim i [ ]
of-extended P [] (suc m) blank each f (here e) = rw e blank
of-extended P [] (suc m) blank each f (there i) = of-extended P [] m blank each f i
of-extended P (g ∷ gs) m blank each f (here e) = each f (here e)
of-extended P (g ∷ gs) m blank each f (there i) = of-extended P gs m blank (λ x j. each x (there j)) f i

-- fields set right and found again
right-back : (width : ℕ) (fields : List (List ℕ)) → ((f : List ℕ) → f ∈ fields → unspaced f ≡ f) → map unspaced (map (set_right width) fields) ≡ fields
right-back width [] h = refl
right-back width (f ∷ fs) h =
    let one = right-off width f ∙ h f (here refl) in
    let rest = right-back width fs (λ x m. h x (there m)) in
    cc

-- a field that fits a column and does not start with a space
record Fits (f : List ℕ) : Type 0 where
  short : length f ≤ column_width
  whole : unspaced f ≡ f

-- the columns of a line are its fields
columns-line : (fields : List (List ℕ)) → length fields ≤ most_columns → ((f : List ℕ) → f ∈ fields → Fits f) → columns (column_line fields) ≡ extended fields
unfolding columns column_line extended unspaced
columns-line fields few fit =
    let m = most_columns - length fields in
    let body = flat_map (set_right column_width) fields ++ replicate (column_width * m) 32 in
    let all_fit = of-extended Fits fields m (record { short = omega arith; whole = refl }) fit in
    let e = length-append body (10 ∷ []) in
    let l = column-length fields few (λ f i. (fit f i).short) in
    rw (
      take_at body (10 ∷ []) line_width (omega arith),
      ← (columns-then-blank column_width m fields),
      parts-flat column_width (set_right column_width) (fields ++ replicate m []) (omega arith) (λ f i. right-length column_width f (all_fit f i).short),
    )
    (right-back column_width (fields ++ replicate m []) (λ f i. (all_fit f i).whole))

-- ---- which columns are numbers

blank-no-number : is_number [] ≡ false
unfolding is_number within
blank-no-number = refl

name-letters : (n : List ℕ) → is_name n ≡ true → all (within 97 122) n ≡ true
unfolding is_name
name-letters n t = ((both_true (within 1 most_letters (length n)) (all (within 97 122) n)).0 t).1

-- no name is a number, for its first letter is no digit
name-no-number : (n : List ℕ) → is_name n ≡ true → is_number n ≡ false
unfolding is_number all
name-no-number [] t = blank-no-number
name-no-number (b ∷ bs) t =
    let low = (within-is 97 122 b ((both_true (within 97 122 b) (all (within 97 122) bs)).0 (name-letters (b ∷ bs) t)).0).0 in
    rw (too-high 48 57 b (omega arith)) (neither (within 1 most_digits (length (b ∷ bs))) (no_leading_zero (b ∷ bs)))
  where
    neither : (a c : Bool) → (a && false) && c ≡ false
    neither true c = refl
    neither false c = refl

-- blank columns hold no number
keep-blank : (m : ℕ) → keep is_number (replicate m []) ≡ []
unfolding keep
keep-blank zero = refl
keep-blank (suc m) = rw blank-no-number (keep-blank m)

-- what is kept is the row
keep-numbers : (r : List ℕ) (m : ℕ) → ((x : ℕ) → x ∈ r → x ≤ largest_object) → map value_of (keep is_number (map digits r ++ replicate m [])) ≡ r
unfolding keep
keep-numbers [] m h = ap (map value_of) (keep-blank m)
keep-numbers (x ∷ xs) m h =
    let small = h x (here refl) in
    let rest = keep-numbers xs m (λ y i. h y (there i)) in
    rw (digits_number x small, digits-back x small, rest)

-- ---- the row of a line of each kind

name-fits : (n : List ℕ) → is_name n ≡ true → Fits n
name-fits n t = record { short = name-short n t; whole = solid 97 122 n (omega arith) (name-letters n t) }

digits-fit : (r : List ℕ) → ((x : ℕ) → x ∈ r → x ≤ largest_object) → (f : List ℕ) → f ∈ map digits r → Fits f
digits-fit r h f m =
    let x = (in_map digits r).0 m in
    let n = number (digits x.0) (digits_number x.0 (h x.0 x.1)) in
    record { short = objects-short r h f m; whole = rw x.2 (solid 48 57 (digits x.0) (omega arith) n.digits) }

-- nothing in the first column that is a number
no_row : (fields : List (List ℕ)) → is_number (get_or fields 0 []) ≡ false → row_in fields ≡ []
unfolding row_in
no_row fields h = rw h

-- the line of the names is no row
names-no-row : (names : List (List ℕ)) → length names ≤ most_columns → ((n : List ℕ) → n ∈ names → is_name n ≡ true) → row_in (columns (column_line names)) ≡ []
unfolding extended
names-no-row names few h = rw (columns-line names few (λ n m. name-fits n (h n m))) (by names h)
  where
    by : (names : List (List ℕ)) → ((n : List ℕ) → n ∈ names → is_name n ≡ true) → row_in (extended names) ≡ []
    by [] h = no_row _ blank-no-number
    by (n ∷ ns) h = no_row _ (name-no-number n (h n (here refl)))

-- the line of a row is that row
row_back : (r : List ℕ) → 1 ≤ length r → length r ≤ most_columns → ((x : ℕ) → x ∈ r → x ≤ largest_object) → row_in (columns (row_line r)) ≡ r ∷ []
unfolding row_line row_in extended
row_back [] some few h = absurd (omega arith)
row_back (x ∷ xs) some few h =
    let l = length-map xs digits in
    let r : List ℕ = x ∷ xs in
    rw (columns-line (map digits r) (omega arith) (digits-fit r h), digits_number x (h x (here refl)))
    (ap (λ (k : List ℕ). k ∷ []) (keep-numbers r (most_columns - length (map digits r)) h))

-- the line of a page's number is no row
number-no-row : (k : ℕ) → row_in (columns (number_line k)) ≡ []
unfolding columns number_line unspaced
number-no-row k =
    let text = bytes "page " ++ digits k in
    let s = number_short k in
    let line = set_right line_width text in
    let l = right-length line_width text (omega arith) in
    let first = ap unspaced (right-start column_width line_width text (omega arith)) ∙ right-off column_width [] in
    rw (take_at line (10 ∷ []) line_width l, parts_next column_width line (omega arith) (omega arith))
    (no_row (unspaced (take column_width line) ∷ map unspaced (parts_of column_width (drop column_width line))) (ap is_number first ∙ blank-no-number))

-- ---- lines read one after another

-- the first line, then what is left
read-line : (line rest : List ℕ) → length line ≡ line_width + 1 → read_back (line ++ rest) ≡ row_in (columns line) ++ read_back rest
unfolding read_back flat_map
read-line line rest h = rw (parts-append (line_width + 1) line rest (omega arith) h)

module _ {names rows : List (List ℕ)} (p : Printable names rows) where
  -- rows of the query, then what is left
  read-rows : (some : List (List ℕ)) (rest : List ℕ) → ((r : List ℕ) → r ∈ some → r ∈ rows) → read_back (flat_map row_line some ++ rest) ≡ some ++ read_back rest
  unfolding flat_map
  read-rows [] rest h = refl
  read-rows (r ∷ rs) rest h =
      let m = h r (here refl) in
      ap read_back (append_assoc (row_line r) (flat_map row_line rs) rest)
      ∙ read-line (row_line r) (flat_map row_line rs ++ rest) (rows-length p r m)
      ∙ rw (row_back r (p.some r m) (p.most r m) (p.objects r m), read-rows rs rest (λ x i. h x (there i)))

  -- a page of them, then what is left
  read-page : (k : ℕ) (some : List (List ℕ)) (rest : List ℕ) → ((r : List ℕ) → r ∈ some → r ∈ rows) → read_back (page k names some ++ rest) ≡ some ++ read_back rest
  unfolding page
  read-page k some rest h =
      ap read_back (append_assoc (column_line names ++ flat_map row_line some) (number_line k) rest ∙ append_assoc (column_line names) (flat_map row_line some) (number_line k ++ rest))
      ∙ read-line (column_line names) (flat_map row_line some ++ (number_line k ++ rest)) (names-length p)
      ∙ rw (names-no-row names p.few p.letters, read-rows some (number_line k ++ rest) h, read-line (number_line k) rest (number-length k), number-no-row k)

  -- ---- the pages of names and rows

  -- `sheets` are the rows of each page
  read-pages : (k : ℕ) (sheets : List (List (List ℕ))) → ((r : List ℕ) → r ∈ flat_map (λ s. s) sheets → r ∈ rows) → read_back (pages_from k names sheets) ≡ flat_map (λ s. s) sheets
  unfolding pages_from flat_map read_back
  read-pages k [] h = rw (parts_none {A = ℕ} (line_width + 1))
  read-pages k (some ∷ rest) h =
      read-page k some (pages_from (k + 1) names rest) (λ r m. h r (Memᴰ.append_left (flat_map (λ s. s) rest) m))
      ∙ ap (λ (more : List (List ℕ)). some ++ more) (read-pages (k + 1) rest (λ r m. h r (Memᴰ.append_right some m)))

  pub reads-back : read_back (pages names rows) ≡ rows
  reads-back = rw (pages-sheets names rows) (read-pages 1 (sheets_of rows) (λ r m. rw (sheets-whole rows) at m) ∙ sheets-whole rows)
