-- Finding: names by number, and the search for one.
--
-- In order: how many there are; the search for one; no names; one name more; a name in its other writing. Assumes nothing.
use mathlib.Core.Path.{◌≡◌, refl, ◌∙◌, ap}
use mathlib.Core.Bool.{Bool, true, false, ◌||◌, not, cond}
use mathlib.Core.List.{List, [], ◌∷◌, ◌++◌, map-append}
use Prim.Native.Nat.{ℕ, zero, suc, ◌+◌, ◌<◌, ◌≤◌}
use native.Mathlib.Omega.{arith}
use native.Mathlib.Numerals.{add-one}
use lib.Dec.{eqb, ltb}
use lib.ListN.{length, get_or, take, set, length-map}
use lib.Seq.{take-suc-set, length-take-le}
use denote.Ref.{Bor}
use Rattle.std.specs.List.{list_any, position, position_or_len}
use Rattle.std.proofs.lemmas.Bool.{ltb-false}
use Rattle.std.specs.Cmp.Lexicographic.{pointwise}
use Rattle.std.proofs.Common.{Option, Some, None}
use Rattle.limits.specs.Limits.{most_labels}
use Rattle.tables.specs.Lists.{any}
use Rattle.sheet_text.specs.Text.{same, find, known, differ_by_star, clashes}
use Rattle.sheet_text.specs.inner.Parts.{texts, names_of, Found}
use Rattle.sheet_text.specs.declared.names.Names.{Names}
use Rattle.sheet_text.proofs.Words.{same_is}

-- ---- how many there are

pub length-names : (x : Names) → length (names_of x) ≡ x.n
unfolding names_of
length-names x = length-map (take x.n x.texts) (λ t. t.now) ∙ length-take-le x.n x.texts (omega (arith, x.size, x.few))

-- a text by its reference
pub text-at : (xs : List (Bor (List ℕ))) (k : ℕ) (d : Bor (List ℕ)) → get_or (texts xs) k d.now ≡ (get_or xs k d).now
text-at [] k d = refl
text-at (x ∷ xs) zero d = refl
text-at (x ∷ xs) (suc k) d = text-at xs k d

pub text-in : (xs : List (Bor (List ℕ))) (k : ℕ) (d : Bor (List ℕ)) (e : List ℕ) → k < length xs → get_or (texts xs) k e ≡ (get_or xs k d).now
text-in [] k d e h = absurd (omega arith)
text-in (x ∷ xs) zero d e h = refl
text-in (x ∷ xs) (suc k) d e h = text-in xs k d e (omega arith)

-- ---- the search for one

-- references to names, and a text that is looked up among them
module _ (name : List ℕ) where
  step : (t : Bool) (a b : ℕ) → a ≡ b → cond (not t) (1 + a) 0 ≡ cond t 0 (b + 1)
  step true a b e = refl
  step false a b e = omega arith

  find-position : (xs : List (Bor (List ℕ))) → position_or_len (λ x. pointwise eqb name x.now) xs ≡ find name (texts xs)
  unfolding find
  find-position [] = refl
  find-position (x ∷ xs) = rw (same_is name x.now) (step (same name x.now) _ _ (find-position xs))

  pub find-bound : (names : List (List ℕ)) → find name names ≤ length names
  unfolding find
  find-bound [] = omega arith
  find-bound (n ∷ ns) = by (same name n) (find-bound ns)
    where
      by : (t : Bool) → find name ns ≤ length ns → cond t 0 (find name ns + 1) ≤ suc (length ns)
      by true h = omega arith
      by false h = omega arith

  module _ (xs : List (Bor (List ℕ))) (r : Option ℕ) (e : r ≡ position (λ x. pointwise eqb name x.now) xs) where
    pub found : Found name (texts xs) r
    unfolding known
    found = by (ltb (find name (texts xs)) (length xs)) refl (e ∙ rw (find-position xs))
      where
        l : length (texts xs) ≡ length xs
        l = length-map xs (λ t. t.now)

        by : (t : Bool) → ltb (find name (texts xs)) (length xs) ≡ t → r ≡ cond t (Some (find name (texts xs))) None → Found name (texts xs) r
        by true h z = record { place = rw z; known = rw (z, l, h) }
        by false h z =
            let b = ltb-false _ _ h in
            record { place = rw z (omega (arith, l, find-bound (texts xs), b)); known = rw (z, l, h) }

-- ---- one name more

pub extended : (x y : Names) (name : Bor (List ℕ)) → x.n < most_labels → y.texts ≡ set x.texts x.n name → y.n ≡ x.n + 1 → names_of y ≡ names_of x ++ (name.now ∷ [])
unfolding names_of
extended x y name h e f =
    let l : x.n < length x.texts = omega (arith, x.size) in
    rw (f, e, add-one, take-suc-set x.texts x.n name l) (map-append (λ (t : Bor (List ℕ)). t.now) (take x.n x.texts) (name ∷ []))

-- ---- a name in its other writing

pub any-clashes : (name : List ℕ) (xs : List (Bor (List ℕ))) → list_any (λ x. differ_by_star name x.now) xs ≡ clashes name (texts xs)
unfolding clashes any
any-clashes name [] = refl
any-clashes name (x ∷ xs) = ap (λ b. differ_by_star name x.now || b) (any-clashes name xs)
