-- Parts: laws of a list cut into parts of one length.
--
-- In order: the first part and the rest; parts put one after another and cut again; the first parts, and the others; how many there are, and what they
-- hold together; what is made of each element, cut again. Assumes nothing.
use Prim.Native.Nat.{ℕ, zero, suc, ◌+◌, ◌*◌, ◌-◌, ◌/◌, ◌<◌, ◌≤◌}
use native.Mathlib.Omega.{arith}
use native.Mathlib.Nat.{suc-mul, div-eq_of_lt, div-eq-sub-div}
use native.Mathlib.Decide.{dec_lt}
use mathlib.Core.Path.{◌≡◌, refl, sym, ap, ◌∙◌}
use mathlib.Core.List.Memᴰ.{head as here}
use mathlib.Core.List.Memᴰ.{tail as there}
use mathlib.Core.List.{List, [], ◌∷◌, ◌++◌, map, map-id, flat_map, append-nil}
use lib.ListN.{length, take, drop, length-append, length-drop, take-append-drop, drop_of_length-le}
use lib.Seq.{take_at, drop_at, take_all, take-nil, drop-nil, take-add, drop-drop, length-take-le}
use Rattle.tables.specs.Lists.{◌∈◌}
use Rattle.sheet_writer.specs.Parts.{parts_within, parts_of}

module _ {A : Type 0} where
  -- ---- the first part and the rest

  -- any bound on their number gives the same parts
  parts_same : (m n size : ℕ) (xs : List A) → 1 ≤ size → length xs ≤ m → length xs ≤ n → parts_within m size xs ≡ parts_within n size xs
  unfolding parts_within
  parts_same zero zero size xs h a b = refl
  parts_same zero (suc n) size [] h a b = refl
  parts_same zero (suc n) size (x ∷ xs) h a b = absurd (omega arith)
  parts_same (suc m) zero size [] h a b = refl
  parts_same (suc m) zero size (x ∷ xs) h a b = absurd (omega arith)
  parts_same (suc m) (suc n) size [] h a b = refl
  parts_same (suc m) (suc n) size (x ∷ xs) h a b =
      let l = length-drop size (x ∷ xs) in
      ap (λ (ps : List (List A)). take size (x ∷ xs) ∷ ps) (parts_same m n size (drop size (x ∷ xs)) h (omega arith) (omega arith))

  pub parts_none : (size : ℕ) → parts_of {A = A} size [] ≡ []
  unfolding parts_of parts_within
  parts_none size = refl

  pub parts_next : (size : ℕ) (xs : List A) → 1 ≤ size → 1 ≤ length xs → parts_of size xs ≡ take size xs ∷ parts_of size (drop size xs)
  unfolding parts_of parts_within
  parts_next size [] h k = absurd (omega arith)
  parts_next size (x ∷ xs) h k =
      let l = length-drop size (x ∷ xs) in
      ap (λ (ps : List (List A)). take size (x ∷ xs) ∷ ps) (parts_same (length xs) (length (drop size (x ∷ xs))) size (drop size (x ∷ xs)) h (omega arith) (omega arith))

  -- ---- parts put one after another

  pub parts-append : (size : ℕ) (x rest : List A) → 1 ≤ size → length x ≡ size → parts_of size (x ++ rest) ≡ x ∷ parts_of size rest
  parts-append size x rest h e =
      let l = length-append x rest in
      parts_next size (x ++ rest) h (omega arith) ∙ rw (take_at x rest size e, drop_at x rest size e)

  -- ---- the first parts, and the others

  pub take-parts : (n size : ℕ) (xs : List A) → 1 ≤ size → take n (parts_of size xs) ≡ parts_of size (take (n * size) xs)
  take-parts zero size xs h = let z : 0 * size ≡ 0 = omega arith in rw z (sym (parts_none size))
  take-parts (suc n) size [] h = rw (parts_none size, take-nil {A = A} (suc n * size), parts_none size)
  take-parts (suc n) size (x ∷ xs) h =
      let m : suc n * size ≡ size + n * size = omega (arith, suc-mul n size) in
      ap (take (suc n)) (parts_next size (x ∷ xs) h (omega arith))
      ∙ ap (λ (ps : List (List A)). take size (x ∷ xs) ∷ ps) (take-parts n size (drop size (x ∷ xs)) h)
      ∙ sym (ap (λ (k : ℕ). parts_of size (take k (x ∷ xs))) m ∙ ap (parts_of size) (take-add size (n * size) (x ∷ xs)) ∙ by (dec_lt (length (x ∷ xs)) size))
    where
      left : List A
      left = take (n * size) (drop size (x ∷ xs))

      by : Dec (length (x ∷ xs) < size) → parts_of size (take size (x ∷ xs) ++ left) ≡ take size (x ∷ xs) ∷ parts_of size left
      by (yes k) =
          let e = take_all size (x ∷ xs) (omega arith) in
          let d = drop_of_length-le (x ∷ xs) {i = size} (omega arith) in
          let z : left ≡ [] = ap (take (n * size)) d ∙ take-nil {A = A} (n * size) in
          rw (z, append-nil, e) (parts_next size (x ∷ xs) h (omega arith) ∙ rw (e, d))
      by (no k) = parts-append size (take size (x ∷ xs)) left h (length-take-le size (x ∷ xs) (omega arith))

  pub drop-parts : (n size : ℕ) (xs : List A) → 1 ≤ size → drop n (parts_of size xs) ≡ parts_of size (drop (n * size) xs)
  drop-parts zero size xs h = let z : 0 * size ≡ 0 = omega arith in rw z
  drop-parts (suc n) size [] h = rw (parts_none size, drop-nil {A = A} (suc n * size), parts_none size)
  drop-parts (suc n) size (x ∷ xs) h =
      let m : suc n * size ≡ size + n * size = omega (arith, suc-mul n size) in
      ap (drop (suc n)) (parts_next size (x ∷ xs) h (omega arith)) ∙ drop-parts n size (drop size (x ∷ xs)) h
      ∙ ap (parts_of size) (drop-drop (n * size) size (x ∷ xs)) ∙ ap (λ (k : ℕ). parts_of size (drop k (x ∷ xs))) (sym m)

  -- ---- how many there are, and what they hold together

  -- what holds of no elements, and of a list wherever it holds of all but the first part
  by_parts : (size : ℕ) (P : List A → Type 0) → 1 ≤ size → P [] → ((xs : List A) → 1 ≤ length xs → P (drop size xs) → P xs) → (xs : List A) → P xs
  by_parts size P h none more xs = within (length xs) xs (omega arith)
    where
      within : (most : ℕ) (xs : List A) → length xs ≤ most → P xs
      within zero [] l = none
      within zero (x ∷ xs) l = absurd (omega arith)
      within (suc most) [] l = none
      within (suc most) (x ∷ xs) l =
          let d = length-drop size (x ∷ xs) in
          more (x ∷ xs) (omega arith) (within most (drop size (x ∷ xs)) (omega arith))

  -- put one after another they are the list again
  pub parts_whole : (size : ℕ) (xs : List A) → 1 ≤ size → flat_map (λ p. p) (parts_of size xs) ≡ xs
  unfolding flat_map
  parts_whole size xs h = by_parts size (λ ys. flat_map (λ p. p) (parts_of size ys) ≡ ys) h (rw (parts_none size)) more xs
    where
      more : (ys : List A) → 1 ≤ length ys → flat_map (λ p. p) (parts_of size (drop size ys)) ≡ drop size ys → flat_map (λ p. p) (parts_of size ys) ≡ ys
      more ys l e = rw (parts_next size ys h l, e) (take-append-drop size ys)

  pub parts-count : (size : ℕ) (xs : List A) → 1 ≤ size → 1 ≤ length xs → length (parts_of size xs) ≡ 1 + (length xs - 1) / size
  parts-count size xs h = by_parts size (λ ys. 1 ≤ length ys → length (parts_of size ys) ≡ 1 + (length ys - 1) / size) h (λ l. absurd (omega arith)) more xs
    where
      more : (ys : List A) → 1 ≤ length ys → (1 ≤ length (drop size ys) → length (parts_of size (drop size ys)) ≡ 1 + (length (drop size ys) - 1) / size)
          → 1 ≤ length ys → length (parts_of size ys) ≡ 1 + (length ys - 1) / size
      more ys l e k = rw (parts_next size ys h l) (by (dec_lt size (length ys)))
        where
          by : Dec (size < length ys) → length (take size ys ∷ parts_of size (drop size ys)) ≡ 1 + (length ys - 1) / size
          by (yes m) =
              let d = length-drop size ys in
              let less : length (drop size ys) - 1 ≡ length ys - 1 - size = omega arith in
              let one = div-eq-sub-div {m = size} {n = length ys - 1} h (omega arith) in
              let rest = rw less at (e (omega arith)) in
              omega arith
          by (no m) =
              let none = div-eq_of_lt {n = length ys - 1} {m = size} (omega arith) in
              rw (drop_of_length-le ys {i = size} (omega arith), parts_none size, none)

-- what is made of each element, all of one length, is cut again
pub parts-flat : {A B : Type 0} (size : ℕ) (f : A → List B) (xs : List A) → 1 ≤ size → ((x : A) → x ∈ xs → length (f x) ≡ size) → parts_of size (flat_map f xs) ≡ map f xs
unfolding flat_map
parts-flat size f [] h k = parts_none size
parts-flat size f (x ∷ xs) h k = parts-append size (f x) (flat_map f xs) h (k x (here refl)) ∙ rw (parts-flat size f xs h (λ y m. k y (there m)))

pub parts-joined : {A : Type 0} (size : ℕ) (parts : List (List A)) → 1 ≤ size → ((p : List A) → p ∈ parts → length p ≡ size) → parts_of size (flat_map (λ p. p) parts) ≡ parts
parts-joined {A} size parts h k = parts-flat size (λ (p : List A). p) parts h k ∙ map-id parts
