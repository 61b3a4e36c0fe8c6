-- Words: what it says that a text is a name or a number, and a number's value.
--
-- In order: tests over all bytes, and over two texts, as the library has them; a number; its value; a number or a dash; a text without its star.
-- Assumes nothing.
use mathlib.Core.Path.{◌≡◌, refl, ap}
use mathlib.Core.Bool.{Bool, true, false, ◌&&◌, not}
use mathlib.Core.List.{List, [], ◌∷◌}
use Prim.Native.Nat.{ℕ, ◌+◌, ◌*◌, ◌-◌, ◌^◌, ◌<◌, ◌≤◌}
use native.Mathlib.Omega.{arith}
use borrow.Author.Tests.{le-leb, lt-leb}
use lib.Dec.{eqb, leb, ltb}
use native.Mathlib.Numerals.{add-one}
use native.Mathlib.Nat.{pow-suc, pow-le-pow_right}
use lib.ListN.{length, get_or, take, drop, drop_of_length-le}
use lib.Seq.{drop-cons}
use Rattle.std.proofs.lemmas.Bool.Decides.{nat_tests}
use Rattle.std.specs.List.{list_all}
use Rattle.std.specs.Cmp.Lexicographic.{pointwise}
use Rattle.limits.specs.Limits.{most_digits, most_letters}
use Rattle.tables.specs.Lists.{all}
use Rattle.tables.proofs.Tests.{both_true, leb-is, true-not-false}
use Rattle.sheet_text.specs.Text.{within, is_name, no_leading_zero, is_number, value_from, value_of, is_dash, is_number_or_dash, is_starred, same}

pub all_is : {A : Type 0} (p : A → Bool) (xs : List A) → list_all p xs ≡ all p xs
unfolding all
all_is p [] = refl
all_is p (x ∷ xs) = ap (λ b. p x && b) (all_is p xs)

pub same_is : (xs ys : List ℕ) → pointwise eqb xs ys ≡ same xs ys
unfolding same
same_is [] [] = refl
same_is [] (y ∷ ys) = refl
same_is (x ∷ xs) [] = refl
same_is (x ∷ xs) (y ∷ ys) = ap (λ b. eqb x y && b) (same_is xs ys)

-- ---- a number

pub leading-is : (bs : List ℕ) → no_leading_zero bs ≡ not (ltb 1 (length bs) && pointwise eqb (48 ∷ []) (take 1 bs))
unfolding no_leading_zero
leading-is [] = refl
leading-is (b ∷ []) = refl
leading-is (b ∷ c ∷ bs) = grind (arith, nat_tests)

pub record Number (xs : List ℕ) : Type 0 where
  pub some : 1 ≤ length xs
  pub few : length xs ≤ most_digits
  pub digits : all (within 48 57) xs ≡ true

and-false : (b : Bool) → b && false ≡ false
and-false true = refl
and-false false = refl

pub too-high : (low high b : ℕ) → high < b → within low high b ≡ false
unfolding within
too-high low high b h = rw (lt-leb b high h) (and-false (leb low b))

pub is_within : (low high b : ℕ) → low ≤ b → b ≤ high → within low high b ≡ true
unfolding within
is_within low high b h k = rw (le-leb low b h, le-leb b high k)

pub within-is : (low high b : ℕ) → within low high b ≡ true → (low ≤ b) × (b ≤ high)
unfolding within
within-is low high b t = let r = (both_true (leb low b) (leb b high)).0 t in ((leb-is low b).0 r.0, (leb-is b high).0 r.1)

pub number : (xs : List ℕ) → is_number xs ≡ true → Number xs
unfolding is_number
number xs t =
    let r = (both_true _ _).0 ((both_true _ _).0 t).0 in
    let w = within-is 1 most_digits (length xs) r.0 in
    record { some = w.0; few = w.1; digits = r.1 }

pub name-length : (xs : List ℕ) → is_name xs ≡ true → 1 ≤ length xs
unfolding is_name
name-length xs t = (within-is 1 most_letters (length xs) ((both_true _ _).0 t).0).0

-- ---- its value

left-next : (xs : List ℕ) (i : ℕ) → i < length xs → drop i xs ≡ get_or xs i 0 ∷ drop (i + 1) xs
left-next xs i h = rw (add-one i) (drop-cons xs i 0 h)

-- n is the value of the first i digits; those left are digits, too
pub record Valuing (s : List ℕ) (n i : ℕ) : Type 0 where
  pub few : length s ≤ most_digits
  pub small : n < 10 ^ i
  pub digits : all (within 48 57) (drop i s) ≡ true
  pub left : value_from n (drop i s) ≡ value_of s

pub value-starts : (s : List ℕ) → is_number s ≡ true → Valuing s 0 0
unfolding value_of
value-starts s t =
    let n = number s t in
    record { few = n.few; small = omega arith; digits = n.digits; left = refl }

module _ {s : List ℕ} {n i : ℕ} (c : Valuing s n i) where
  pub value-small : i ≤ length s → n < 100000
  value-small h =
      let m : 10 ^ i ≤ 10 ^ most_digits = pow-le-pow_right {n = 10} (omega arith) {i = i} {j = most_digits} (omega (arith, c.few)) in
      omega (arith, c.small)

  pub value-ends : length s ≤ i → n ≡ value_of s
  unfolding value_from
  value-ends h = rw (drop_of_length-le s {i = i} h) at c.left

  digits_more : i < length s → (within 48 57 (get_or s i 0) ≡ true) × (all (within 48 57) (drop (i + 1) s) ≡ true)
  unfolding all
  digits_more h = (both_true (within 48 57 (get_or s i 0)) (all (within 48 57) (drop (i + 1) s))).0 (rw (left-next s i h) at c.digits)

  pub digit : i < length s → (48 ≤ get_or s i 0) × (get_or s i 0 ≤ 57)
  digit h = within-is 48 57 (get_or s i 0) (digits_more h).0

  pub value-goes-on : i < length s → Valuing s (10 * n + (get_or s i 0 - 48)) (i + 1)
  unfolding value_from
  value-goes-on h =
      let d = digit h in
      let p : 10 ^ (i + 1) ≡ 10 ^ i * 10 = rw (add-one i) (pow-suc 10 i) in
      record {
        few = c.few;
        small = rw p (omega (arith, c.small, d.0, d.1));
        digits = (digits_more h).1;
        left = rw (left-next s i h) at c.left;
      }

-- ---- a number or a dash

pub dash-or-number : (xs : List ℕ) → is_dash xs ≡ false → is_number_or_dash xs ≡ true → is_number xs ≡ true
unfolding is_number_or_dash
dash-or-number xs t u = rw t at u

-- ---- a text without its star

pub starred-some : (xs : List ℕ) → is_starred xs ≡ true → 1 ≤ length xs
unfolding is_starred
starred-some [] t = absurd (true-not-false t refl)
starred-some (b ∷ bs) t = omega arith
