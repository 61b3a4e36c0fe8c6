-- Rows: words that are rows, one after another, and the text of each.
--
-- In order: a row, and what follows; the text of rows, of which the first is written next; the fields of a line. Assumes nothing.
use Prim.Native.Nat.{ℕ, ◌+◌, ◌<◌, ◌≤◌, min}
use native.Mathlib.Omega.{arith}
use native.Mathlib.Decide.{dec_lt}
use mathlib.Core.Path.{◌≡◌, refl, ◌∙◌, sym, ap}
use mathlib.Core.List.{List, [], ◌∷◌, ◌++◌, map, flat_map}
use lib.ListN.{length, get_or, take, drop, drop_of_length-le, length-drop}
use lib.Seq.{take_all, take-append_seam, drop-append_seam}
use Rattle.drawing.proofs.Encoding.{left-next}
use Rattle.sheet_writer.specs.Parts.{parts_of}
use Rattle.sheet_writer.specs.inner.Written.{Put}
use Rattle.sheet_writer.proofs.Putting.{Putting, putting-same, putting-some}
use Rattle.sheet_writer.proofs.Parts.{parts_none, parts_next}

-- ---- a row, and what follows

pub row-first : (picks : ℕ) (ws : List ℕ) → take (min picks (length ws)) ws ≡ take picks ws
row-first picks ws = by (dec_lt (length ws) picks)
  where
    by : Dec (length ws < picks) → take (min picks (length ws)) ws ≡ take picks ws
    by (yes h) = let z : min picks (length ws) ≡ length ws = omega arith in rw z (take_all (length ws) ws (omega arith) ∙ sym (take_all picks ws (omega arith)))
    by (no h) = let z : min picks (length ws) ≡ picks = omega arith in rw z

pub rows-behind : (picks : ℕ) (ws : List ℕ) → drop (min picks (length ws)) ws ≡ drop picks ws
rows-behind picks ws = by (dec_lt (length ws) picks)
  where
    by : Dec (length ws < picks) → drop (min picks (length ws)) ws ≡ drop picks ws
    by (yes h) =
        let z : min picks (length ws) ≡ length ws = omega arith in
        rw z (drop_of_length-le ws {i = length ws} (omega arith) ∙ sym (drop_of_length-le ws {i = picks} (omega arith)))
    by (no h) = let z : min picks (length ws) ≡ picks = omega arith in rw z

-- a chunk is the first row, and what the iterator then has left follows it
module _ (picks : ℕ) {ws : List ℕ} (row rest : List ℕ) (parts : ws ≡ row ++ rest) (size : length row ≡ min picks (length ws)) where
  pub chunk-first : row ≡ take picks ws
  chunk-first = sym (take-append_seam row rest) ∙ rw (← parts, size) (row-first picks ws)

  pub chunks-behind : rest ≡ drop picks ws
  chunks-behind = sym (drop-append_seam row rest) ∙ rw (← parts, size) (rows-behind picks ws)

-- ---- the text of rows; `text` is that of one row

module _ (text : List ℕ → List ℕ) (picks : ℕ) where
  pub rows-next : (ws : List ℕ) → 1 ≤ picks → (length ws ≡ 0 → ⊥) → flat_map text (parts_of picks ws) ≡ text (take picks ws) ++ flat_map text (parts_of picks (drop picks ws))
  unfolding flat_map
  rows-next ws p h = rw (parts_next picks ws p (omega (arith, some ws h)))
    where
      some : (xs : List ℕ) → (length xs ≡ 0 → ⊥) → 1 ≤ length xs
      some [] d = absurd (d refl)
      some (x ∷ xs) d = omega arith

  -- the text of a chunk is written
  pub row-put : {before after new all ws : List ℕ} (row rest : List ℕ) {at k r : ℕ} → 1 ≤ picks → ws ≡ row ++ rest → length row ≡ min picks (length ws) → 0 < length ws
      → Putting before after at all (flat_map text (parts_of picks ws)) k → Put after new k (text row) r → Putting before new at all (flat_map text (parts_of picks rest)) r
  row-put {ws = ws} row rest p parts size some written now =
      rw (chunks-behind picks row rest parts size)
      (putting-some (putting-same (rows-next ws p (λ z. omega arith)) written) (rw (chunk-first picks row rest parts size) at now))

  pub rows-none : (ws : List ℕ) → length ws ≡ 0 → flat_map text (parts_of picks ws) ≡ []
  unfolding flat_map
  rows-none [] h = rw (parts_none picks)
  rows-none (x ∷ xs) h = absurd (omega arith)

-- what follows a row is less
pub less-left : (picks : ℕ) (ws : List ℕ) → 1 ≤ picks → (length ws ≡ 0 → ⊥) → length (drop picks ws) < length ws
less-left picks ws p h = let l = length-drop picks ws in omega (arith, some ws h)
  where
    some : (xs : List ℕ) → (length xs ≡ 0 → ⊥) → 1 ≤ length xs
    some [] d = absurd (d refl)
    some (x ∷ xs) d = omega arith

-- ---- the fields of a line; `text` is that of one field

module _ {A : Type 0} (text : A → List ℕ) (xs : List A) (i : ℕ) where
  pub fields-next : (x : A) → x ≡ get_or xs i x → i < length xs → map text (drop i xs) ≡ text x ∷ map text (drop (i + 1) xs)
  fields-next x e h = rw (left-next xs i x h) (ap (λ y. text y ∷ map text (drop (i + 1) xs)) (sym e))

  pub fields-none : length xs ≤ i → map text (drop i xs) ≡ []
  fields-none h = rw (drop_of_length-le xs {i = i} h)
