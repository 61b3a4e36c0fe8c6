-- Text: bytes, lines and fields, names and numbers (document 01, 'The sheet'; document 02: E1, the star; E4, the dash).
--
-- In order: bytes of a quoted text; parts between separators; names; numbers, read and written; equality and look-up of names; a number or a dash;
-- names of labels, with a star or without. Assumes nothing.
use Rattle.std.specs.Prelude.{ℕ, zero, suc, ◌+◌, ◌*◌, ◌-◌, ◌/◌, ◌%◌, Bool, true, false, ◌&&◌, ◌||◌, not, cond, List, [], ◌∷◌, eqb, leb, ltb, length, get_or, take}
use Prim.Native.Char.{code}
use Prim.Native.String.{String}
use Rattle.limits.specs.Limits.{most_digits, most_letters, any_object}
use Rattle.tables.specs.Lists.{all, any}

unfoldable pub bytes : String → List ℕ
bytes String.[] = []
bytes (String.◌∷◌ c s) = code c ∷ bytes s

-- ---- lines and fields

-- the next part without the separator, and the parts after it; there is always one
pub record Parts : Type 0 where
  pub first : List ℕ
  pub rest : List (List ℕ)

unfoldable pub add_byte : Bool → ℕ → Parts → Parts
add_byte true b p = record { first = []; rest = p.first ∷ p.rest }
add_byte false b p = record { first = b ∷ p.first; rest = p.rest }

-- what stands between the separators: "lines ended by one line feed, fields split by one space"
unfoldable pub split : ℕ → List ℕ → Parts
split sep [] = record { first = []; rest = [] }
split sep (b ∷ bs) = add_byte (eqb b sep) b (split sep bs)

unfoldable pub fields : List ℕ → List (List ℕ)
fields line = let p = split 32 line in p.first ∷ p.rest

-- ---- names and numbers

unfoldable pub within : ℕ → ℕ → ℕ → Bool
within low high b = leb low b && leb b high

-- "Names are 1 to 12 lower-case letters"
unfoldable pub is_name : List ℕ → Bool
is_name bs = within 1 most_letters (length bs) && all (within 97 122) bs

-- "Numbers are 1 to 5 digits without leading zeros"
unfoldable pub no_leading_zero : List ℕ → Bool
no_leading_zero [] = true
no_leading_zero (b ∷ []) = true
no_leading_zero (b ∷ c ∷ bs) = not (eqb b 48)

unfoldable pub is_number : List ℕ → Bool
is_number bs = within 1 most_digits (length bs) && all (within 48 57) bs && no_leading_zero bs

unfoldable pub value_from : ℕ → List ℕ → ℕ
value_from n [] = n
value_from n (b ∷ bs) = value_from (10 * n + (b - 48)) bs

unfoldable pub value_of : List ℕ → ℕ
value_of bs = value_from 0 bs

-- the decimal digits of n before `after`; `most` is at least their number
unfoldable pub digits_before : ℕ → ℕ → List ℕ → List ℕ
digits_before zero n after = after
digits_before (suc most) n after =
    let longer = digits_before most (n / 10) ((48 + n % 10) ∷ after) in cond (ltb n 10) ((48 + n) ∷ after) longer

unfoldable pub digits : ℕ → List ℕ
digits n = digits_before 10 n []

-- ---- names in a list

unfoldable pub same : List ℕ → List ℕ → Bool
same [] [] = true
same [] (y ∷ ys) = false
same (x ∷ xs) [] = false
same (x ∷ xs) (y ∷ ys) = eqb x y && same xs ys

-- the place of a name; as many as there are where it is not among them
unfoldable pub find : List ℕ → List (List ℕ) → ℕ
find name [] = 0
find name (n ∷ ns) = let later = find name ns in cond (same name n) 0 (later + 1)

unfoldable pub known : List ℕ → List (List ℕ) → Bool
known name names = ltb (find name names) (length names)

-- ---- the fixed object of a node: "with `-` or 65536 for any" (document 02, E4)

unfoldable pub is_dash : List ℕ → Bool
is_dash bs = same bs (bytes "-")

unfoldable pub is_number_or_dash : List ℕ → Bool
is_number_or_dash bs = is_dash bs || is_number bs

unfoldable pub number_or_any : List ℕ → ℕ
number_or_any bs = cond (is_dash bs) any_object (value_of bs)

-- ---- names of labels, which are held as they are written

-- "A label may now be two-way: ... in the sheet a star follows its name": the last byte is a star
unfoldable pub is_starred : List ℕ → Bool
is_starred bs = eqb (get_or bs (length bs - 1) 0) 42

-- without its star
unfoldable pub starless : List ℕ → List ℕ
starless bs = cond (is_starred bs) (take (length bs - 1) bs) bs

-- a name, or a name with one star behind it, which is none of the 12 letters
unfoldable pub is_label_name : List ℕ → Bool
is_label_name bs = is_name (starless bs)

-- one name in two writings: one has the star, the other has not
unfoldable pub differ_by_star : List ℕ → List ℕ → Bool
differ_by_star a b = same (starless a) (starless b) && not (same a b)

-- "A label both with and without its star is 14": one of the names is this one in its other writing
unfoldable pub clashes : List ℕ → List (List ℕ) → Bool
clashes name names = any (differ_by_star name) names
