-- Parts: a text cut at its first separator, and the fields that cuts show.
--
-- In order: the place of the first separator; the parts that it shows; two, three and four fields. Assumes nothing.
use mathlib.Core.Path.{◌≡◌, refl, ◌∙◌, sym, ap}
use mathlib.Core.Bool.{Bool, true, false, not, ◌||◌, cond}
use mathlib.Core.List.{List, [], ◌∷◌}
use Prim.Native.Nat.{ℕ, suc, ◌+◌, ◌-◌, ◌<◌, ◌≤◌}
use native.Mathlib.Omega.{arith}
use native.Mathlib.Numerals.{add-one}
use lib.Dec.{eqb}
use lib.Dec.{ltb}
use lib.ListN.{length, take, drop, length-drop}
use lib.Seq.{take-length}
use Rattle.std.proofs.lemmas.Bool.{ltb-false, ltb-true}
use Rattle.std.proofs.lemmas.Option.{none-some, cond_some}
use Rattle.std.specs.List.{position, position_or_len, list_any}
use Rattle.tables.proofs.Tests.{true-not-false}
use Rattle.std.proofs.Common.{Option, Some, None}
use Rattle.sheet_text.specs.Text.{split, add_byte, fields}
use Rattle.sheet_text.specs.inner.Parts.{Whole, Apart}

-- ---- the place of the first separator

record Placed (sep : ℕ) (text : List ℕ) (k : ℕ) : Type 0 where
  inside : k ≤ length text
  whole : length text ≤ k → Whole sep text
  apart : k < length text → Apart sep text (take k text) (drop (k + 1) text)

step : (sep b : ℕ) (bs : List ℕ) (p : ℕ) → Placed sep bs p → (t : Bool) → eqb b sep ≡ t → Placed sep (b ∷ bs) (cond (not t) (1 + p) 0)
unfolding split add_byte
step sep b bs p q true e = record { inside = omega arith; whole = λ z. absurd (omega arith); apart = λ h. record { parts = rw e; size = omega arith } }
step sep b bs p q false e =
    let n : 1 + p ≡ suc p = omega arith in
    rw n (record {
      inside = omega (arith, q.inside);
      whole = λ z. rw (e, q.whole (omega arith));
      apart = λ h.
          let a = q.apart (omega arith) in
          let m : p + 1 ≡ suc p = add-one p in
          let s = a.size in
          record { parts = rw (e, a.parts, add-one (suc p), m); size = rw (add-one (suc p)) (omega (arith, rw m at s)) };
    })

placed : (sep : ℕ) (text : List ℕ) → Placed sep text (position_or_len (λ b. eqb b sep) text)
unfolding split
placed sep [] = record { inside = omega arith; whole = λ z. refl; apart = λ h. absurd (omega arith) }
placed sep (b ∷ bs) = step sep b bs _ (placed sep bs) (eqb b sep) refl

module _ (sep : ℕ) (text : List ℕ) (r : Option ℕ) (e : r ≡ position (λ b. eqb b sep) text) where
  abbrev k : ℕ
  k = position_or_len (λ b. eqb b sep) text

  pub cut-nowhere : r ≡ None → Whole sep text
  cut-nowhere n = by (ltb k (length text)) refl (sym e ∙ n)
    where
      by : (t : Bool) → ltb k (length text) ≡ t → cond t (Some k) None ≡ None → Whole sep text
      by true h z = absurd (none-some _ (sym z))
      by false h z = (placed sep text).whole (ltb-false k (length text) h)

  pub cut-somewhere : {i : ℕ} → r ≡ Some i → Apart sep text (take i text) (take (length text - (i + 1)) (drop (i + 1) text))
  cut-somewhere {i} n =
      let z = cond_some (ltb k (length text)) k i (sym e ∙ n) in
      let a = (placed sep text).apart (ltb-true k (length text) z.0) in
      let l : length (drop (i + 1) text) ≡ length text - (i + 1) = length-drop (i + 1) text in
      rw (← l, take-length) (rw z.1 at a)

-- ---- the fields that cuts show

pub fields-whole : {line : List ℕ} → Whole 32 line → fields line ≡ line ∷ []
unfolding fields
fields-whole w = rw w

pub fields-apart : {line a rest : List ℕ} → Apart 32 line a rest → fields line ≡ a ∷ fields rest
unfolding fields
fields-apart c = rw c.parts

-- a line without a separator has one field, and not more
pub one-field : {line : List ℕ} (n : ℕ) → Whole 32 line → length (fields line) ≡ n + 2 → ⊥
one-field n w e = let l = ap length (fields-whole w) in omega arith

pub others-few : {line a rest : List ℕ} (n : ℕ) → Apart 32 line a rest → (length (fields rest) ≡ n → ⊥) → length (fields line) ≡ suc n → ⊥
others-few n c d e = let l = ap length (fields-apart c) in d (omega arith)

contains-split : (sep : ℕ) (bs : List ℕ) (r : Bool) → list_any (λ b. eqb b sep) bs ≡ r → cond r (1 ≤ length (split sep bs).rest) (Whole sep bs)
unfolding split add_byte
contains-split sep [] true e = absurd (true-not-false refl (sym e))
contains-split sep [] false e = refl
contains-split sep (b ∷ bs) r e = by (eqb b sep) refl r e (contains-split sep bs _ refl)
  where
    by : (t : Bool) → eqb b sep ≡ t → (r : Bool) → (t || list_any (λ c. eqb c sep) bs) ≡ r → cond (list_any (λ c. eqb c sep) bs) (1 ≤ length (split sep bs).rest) (Whole sep bs) →
        cond r (1 ≤ length (split sep (b ∷ bs)).rest) (Whole sep (b ∷ bs))
    by true z true q w = rw z (omega arith)
    by true z false q w = absurd (true-not-false refl q)
    by false z true q w = let h : 1 ≤ length (split sep bs).rest = rw q at w in rw z h
    by false z false q w = let h : Whole sep bs = rw q at w in rw (z, h)

pub two-shown : {line a b : List ℕ} → Apart 32 line a b → list_any (λ c. eqb c 32) b ≡ false → fields line ≡ a ∷ b ∷ []
two-shown {b = b} c e = fields-apart c ∙ rw (fields-whole (contains-split 32 b false e))

pub three-stand : {line a b : List ℕ} → Apart 32 line a b → list_any (λ c. eqb c 32) b ≡ true → length (fields line) ≡ 2 → ⊥
unfolding fields
three-stand {b = b} c e n =
    let l = ap length (fields-apart c) in
    let m : 1 ≤ length (split 32 b).rest = contains-split 32 b true e in
    omega arith

pub next-shown : {line a rest : List ℕ} {fs : List (List ℕ)} → Apart 32 line a rest → fields rest ≡ fs → fields line ≡ a ∷ fs
next-shown c e = fields-apart c ∙ rw e

-- ---- the bytes of a line: those of its fields, and a separator between each two

bytes_of : List (List ℕ) → ℕ
bytes_of [] = 0
bytes_of (f ∷ fs) = suc (length f) + bytes_of fs

split-bytes : (bs : List ℕ) → bytes_of ((split 32 bs).first ∷ (split 32 bs).rest) ≡ suc (length bs)
unfolding bytes_of split add_byte
split-bytes [] = refl
split-bytes (b ∷ bs) = by (eqb b 32) (split-bytes bs)
  where
    by : (t : Bool) → bytes_of ((split 32 bs).first ∷ (split 32 bs).rest) ≡ suc (length bs) →
        bytes_of ((add_byte t b (split 32 bs)).first ∷ (add_byte t b (split 32 bs)).rest) ≡ suc (suc (length bs))
    by true h = omega (arith, h)
    by false h = omega (arith, h)

fields-bytes : (line : List ℕ) → bytes_of (fields line) ≡ suc (length line)
unfolding fields
fields-bytes line = split-bytes line

pub two-size : (line : List ℕ) {a b : List ℕ} → fields line ≡ a ∷ b ∷ [] → length line ≡ length a + 1 + length b
unfolding bytes_of
two-size line e = let h = ap bytes_of e in omega (arith, fields-bytes line)

pub three-size : (line : List ℕ) {a b c : List ℕ} → fields line ≡ a ∷ b ∷ c ∷ [] → length line ≡ length a + 1 + length b + 1 + length c
unfolding bytes_of
three-size line e = let h = ap bytes_of e in omega (arith, fields-bytes line)
