-- Digits: a number's digits are those of its tenth, then its last one.
--
-- In order: digits before others; how many are enough; a number below 10, and one of more digits; digits that are counted; how many there are. Assumes nothing.
use Prim.Native.Nat.{ℕ, zero, suc, ◌+◌, ◌/◌, ◌%◌, ◌^◌, ◌<◌, ◌≤◌}
use native.Mathlib.Omega.{arith}
use native.Mathlib.Nat.{pow-suc}
use mathlib.Core.Path.{◌≡◌, refl, sym, ap, ◌∙◌}
use mathlib.Core.Bool.{Bool, true, false, cond}
use mathlib.Core.List.{List, [], ◌∷◌, ◌++◌, append_assoc}
use native.Mathlib.Decide.{dec_lt}
use lib.Dec.{ltb}
use lib.ListN.{length, length-append}
use borrow.Author.Tests.{lt-ltb, le-ltb}
use Rattle.limits.specs.Limits.{largest_object, most_digits}
use Rattle.sheet_text.specs.Text.{digits_before, digits}

-- the digits of n before `after`, by those of its tenth
before_more : (most n : ℕ) (after : List ℕ) → 10 ≤ n → digits_before (suc most) n after ≡ digits_before most (n / 10) ((48 + n % 10) ∷ after)
unfolding digits_before
before_more most n after h = rw (le-ltb n 10 h)

-- what stands after the digits stays there
before-append : (most n : ℕ) (after : List ℕ) → digits_before most n after ≡ digits_before most n [] ++ after
unfolding digits_before
before-append zero n after = refl
before-append (suc most) n after = by (ltb n 10) (before-append most (n / 10))
  where
    by : (b : Bool) → ((ds : List ℕ) → digits_before most (n / 10) ds ≡ digits_before most (n / 10) [] ++ ds) →
        cond b ((48 + n) ∷ after) (digits_before most (n / 10) ((48 + n % 10) ∷ after))
        ≡ cond b ((48 + n) ∷ []) (digits_before most (n / 10) ((48 + n % 10) ∷ [])) ++ after
    by true shorter = refl
    by false shorter =
        shorter ((48 + n % 10) ∷ after)
        ∙ sym (append_assoc (digits_before most (n / 10) []) ((48 + n % 10) ∷ []) after)
        ∙ ap (λ (ds : List ℕ). ds ++ after) (sym (shorter ((48 + n % 10) ∷ [])))

-- one more than enough gives the same
before-enough : (most n : ℕ) (after : List ℕ) → n < 10 ^ suc most → digits_before (suc (suc most)) n after ≡ digits_before (suc most) n after
unfolding digits_before
before-enough zero n after h = let t : ltb n 10 ≡ true = lt-ltb n 10 (omega arith) in rw t
before-enough (suc most) n after h =
    let p = pow-suc 10 (suc most) in
    ap (λ (ds : List ℕ). cond (ltb n 10) ((48 + n) ∷ after) ds) (before-enough most (n / 10) ((48 + n % 10) ∷ after) (omega arith))

pub digits-one : (n : ℕ) → n < 10 → (48 + n) ∷ [] ≡ digits n
unfolding digits digits_before
digits-one n h = rw (lt-ltb n 10 h)

pub digits_more : (n : ℕ) → 10 ≤ n → n < 2 ^ 32 → digits (n / 10) ++ ((48 + n % 10) ∷ []) ≡ digits n
unfolding digits
digits_more n h k =
    ap (λ (ds : List ℕ). ds ++ ((48 + n % 10) ∷ [])) (before-enough 8 (n / 10) [] (omega arith))
    ∙ sym (before-append 9 (n / 10) ((48 + n % 10) ∷ []))
    ∙ sym (before_more 9 n [] h)

-- ---- the digits of a number, counted

-- c digits of n are counted, or one more where m has one
pub record Counting (n m c : ℕ) : Type 0 where
  pub small : m < 2 ^ 32
  pub count : c + length (digits m) ≡ 1 + length (digits n)
  pub less : c + m ≤ 1 + n

pub counting-start : (n : ℕ) → n < 2 ^ 32 → Counting n n 1
counting-start n h = record { small = h; count = refl; less = omega arith }

module _ {n m c : ℕ} (k : Counting n m c) where
  pub counting_more : 10 ≤ m → Counting n (m / 10) (c + 1)
  counting_more h =
      let e = ap length (digits_more m h k.small) in
      let l = length-append (digits (m / 10)) ((48 + m % 10) ∷ []) in
      record { small = omega (arith, k.small); count = omega (arith, k.count); less = omega (arith, k.less) }

  pub counting-end : m < 10 → c ≡ length (digits n)
  counting-end h = let e = ap length (digits-one m h) in omega (arith, k.count)

-- ---- how many there are

before-few : (most k n : ℕ) (after : List ℕ) → n < 10 ^ suc k → length (digits_before most n after) ≤ suc k + length after
unfolding digits_before
before-few zero k n after h = omega arith
before-few (suc most) k n after h = by (dec_lt n 10) k h (λ k l. before-few most k (n / 10) ((48 + n % 10) ∷ after) l)
  where
    by : Dec (n < 10) → (k : ℕ) → n < 10 ^ suc k → ((k : ℕ) → n / 10 < 10 ^ suc k → length (digits_before most (n / 10) ((48 + n % 10) ∷ after)) ≤ suc k + length ((48 + n % 10) ∷ after))
        → length (cond (ltb n 10) ((48 + n) ∷ after) (digits_before most (n / 10) ((48 + n % 10) ∷ after))) ≤ suc k + length after
    by (yes l) k h rest = rw (lt-ltb n 10 l) (omega arith)
    by (no l) zero h rest = absurd (omega arith)
    by (no l) (suc k) h rest = let p = pow-suc 10 (suc k) in let r = rest k (omega arith) in rw (le-ltb n 10 (omega arith)) (omega arith)

before-most : (most n : ℕ) (after : List ℕ) → length (digits_before most n after) ≤ most + length after
unfolding digits_before
before-most zero n after = omega arith
before-most (suc most) n after = by (ltb n 10) (before-most most (n / 10) ((48 + n % 10) ∷ after))
  where
    by : (b : Bool) → length (digits_before most (n / 10) ((48 + n % 10) ∷ after)) ≤ most + length ((48 + n % 10) ∷ after)
        → length (cond b ((48 + n) ∷ after) (digits_before most (n / 10) ((48 + n % 10) ∷ after))) ≤ suc most + length after
    by true h = omega arith
    by false h = omega arith

pub object-digits : (n : ℕ) → n ≤ largest_object → length (digits n) ≤ most_digits
unfolding digits
object-digits n h = let d = before-few 10 4 n [] (omega arith) in omega arith

pub word-digits : (n : ℕ) → length (digits n) ≤ 10
unfolding digits
word-digits n = let d = before-most 10 n [] in omega arith
