-- DigitsBack: a number's digits, read again, are a number, and that number.
--
-- In order: digits read one after another; what digits are for a number; one digit, and one digit more; the digits that are written. Assumes nothing.
use Prim.Native.Nat.{ℕ, zero, suc, ◌+◌, ◌*◌, ◌-◌, ◌/◌, ◌%◌, ◌^◌, ◌<◌, ◌≤◌}
use native.Mathlib.Omega.{arith}
use native.Mathlib.Decide.{dec_lt}
use mathlib.Core.Bool.{Bool, true, false, not}
use mathlib.Core.Path.{◌≡◌, refl, ap, ◌∙◌}
use mathlib.Core.List.{List, [], ◌∷◌, ◌++◌}
use lib.Dec.{eqb}
use lib.ListN.{length, get_or, length-append, get_or-append}
use borrow.Author.Tests.{ne_eqb}
use Rattle.limits.specs.Limits.{largest_object, most_digits}
use Rattle.tables.specs.Lists.{all}
use Rattle.tables.proofs.Tests.{both_true}
use Rattle.sheet_text.specs.Text.{within, no_leading_zero, is_number, value_from, value_of, digits}
use Rattle.sheet_text.proofs.Words.{is_within}
use Rattle.sheet_writer.proofs.Digits.{digits-one, digits_more, object-digits}

-- ---- digits read one after another

value-append : (n : ℕ) (xs ys : List ℕ) → value_from n (xs ++ ys) ≡ value_from (value_from n xs) ys
unfolding value_from
value-append n [] ys = refl
value-append n (x ∷ xs) ys = value-append (10 * n + (x - 48)) xs ys

all_append : {A : Type 0} (p : A → Bool) (xs ys : List A) → all p xs ≡ true → all p ys ≡ true → all p (xs ++ ys) ≡ true
unfolding all
all_append p [] ys h k = k
all_append p (x ∷ xs) ys h k = let b = (both_true (p x) (all p xs)).0 h in (both_true (p x) (all p (xs ++ ys))).1 (b.0, all_append p xs ys b.1 k)

-- a first digit that is no zero
leads : (ds : List ℕ) → eqb (get_or ds 0 0) 48 ≡ false → no_leading_zero ds ≡ true
unfolding no_leading_zero
leads [] h = refl
leads (b ∷ []) h = refl
leads (b ∷ c ∷ bs) h = ap not h

-- ---- what digits are for a number

record Spells (ds : List ℕ) (n : ℕ) : Type 0 where
  some : 1 ≤ length ds
  figures : all (within 48 57) ds ≡ true
  leading : 1 ≤ n → eqb (get_or ds 0 0) 48 ≡ false
  value : value_of ds ≡ n

figure : (d : ℕ) → d < 10 → all (within 48 57) ((48 + d) ∷ []) ≡ true
unfolding all
figure d h = rw (is_within 48 57 (48 + d) (omega arith) (omega arith))

-- a number below 10
one-digit : (n : ℕ) → n < 10 → Spells ((48 + n) ∷ []) n
unfolding value_of value_from
one-digit n h = record { some = omega arith; figures = figure n h; leading = λ k. ne_eqb (48 + n) 48 (λ e. omega arith); value = omega arith }

-- the digits of its tenth, and its last one
one_more : (ds : List ℕ) (n : ℕ) → 10 ≤ n → Spells ds (n / 10) → Spells (ds ++ ((48 + n % 10) ∷ [])) n
unfolding value_of value_from
one_more ds n h s =
    let last : List ℕ = (48 + n % 10) ∷ [] in
    let l = length-append ds last in
    record {
      some = omega arith;
      figures = all_append (within 48 57) ds last s.figures (figure (n % 10) (omega arith));
      leading = λ k. rw (get_or-append ds last 0 0 s.some) (s.leading (omega arith));
      value = value-append 0 ds last ∙ rw s.value (omega arith);
    }

-- ---- the digits that are written

-- of a number by its tenth
spell_next : (n : ℕ) → n < 2 ^ 32 → Dec (n < 10) → (10 ≤ n → Spells (digits (n / 10)) (n / 10)) → Spells (digits n) n
spell_next n h (yes k) tenth = rw (← (digits-one n k)) (one-digit n k)
spell_next n h (no k) tenth = rw (← (digits_more n (omega arith) h)) (one_more (digits (n / 10)) n (omega arith) (tenth (omega arith)))

spell-within : (most n : ℕ) → n ≤ most → n < 2 ^ 32 → Spells (digits n) n
spell-within zero n l h = spell_next n h (dec_lt n 10) (λ k. absurd (omega arith))
spell-within (suc most) n l h = spell_next n h (dec_lt n 10) (λ k. spell-within most (n / 10) (omega arith) (omega arith))

digits-spell : (n : ℕ) → n < 2 ^ 32 → Spells (digits n) n
digits-spell n h = spell-within n n (omega arith) h

digits-lead : (n : ℕ) → n < 2 ^ 32 → no_leading_zero (digits n) ≡ true
unfolding no_leading_zero
digits-lead n h = by (dec_lt n 1)
  where
    by : Dec (n < 1) → no_leading_zero (digits n) ≡ true
    by (yes k) = rw (← (digits-one n (omega arith)))
    by (no k) = leads (digits n) ((digits-spell n h).leading (omega arith))

pub digits_number : (n : ℕ) → n ≤ largest_object → is_number (digits n) ≡ true
unfolding is_number
digits_number n h =
    let s = digits-spell n (omega arith) in
    rw (is_within 1 most_digits (length (digits n)) s.some (object-digits n h), s.figures, digits-lead n (omega arith))

pub digits-back : (n : ℕ) → n ≤ largest_object → value_of (digits n) ≡ n
digits-back n h = (digits-spell n (omega arith)).value
