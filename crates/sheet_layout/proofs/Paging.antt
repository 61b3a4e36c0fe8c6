-- Paging: pages, partly written.
--
-- In order: the words of a page; the first page, and the others; the pages that are left. Assumes nothing.
use Prim.Native.Nat.{ℕ, ◌+◌, ◌*◌, ◌<◌, ◌≤◌, min}
use native.Mathlib.Omega.{arith}
use mathlib.Core.Path.{◌≡◌, refl, ap, ◌∙◌}
use mathlib.Core.List.{List, [], ◌∷◌, ◌++◌}
use lib.ListN.{length, take, drop}
use Rattle.limits.specs.Limits.{page_rows}
use Rattle.sheet_writer.specs.Parts.{parts_of}
use Rattle.sheet_writer.specs.inner.Written.{Put}
use Rattle.sheet_writer.proofs.Parts.{parts_none, parts_next, take-parts, drop-parts}
use Rattle.sheet_writer.proofs.Rows.{chunk-first, chunks-behind, less-left}
use Rattle.sheet_writer.proofs.Putting.{Putting, putting-start, putting-same, putting-some, putting-end}
use Rattle.sheet_layout.specs.Pages.{page, pages_from, pages}

-- ---- the first page, and the others

module _ (names : List (List ℕ)) (picks : ℕ) (p : 1 ≤ picks) where
  -- the first is there whatever it holds
  pub pages-first : (ws : List ℕ) → page 1 names (parts_of picks (take (page_rows * picks) ws)) ++ pages_from 2 names (parts_of page_rows (parts_of picks (drop (page_rows * picks) ws)))
      ≡ pages names (parts_of picks ws)
  unfolding pages
  pages-first ws = rw (take-parts page_rows picks ws p, drop-parts page_rows picks ws p)

  pages-some : (k : ℕ) (rs : List (List ℕ)) → 1 ≤ length rs
      → pages_from k names (parts_of page_rows rs) ≡ page k names (take page_rows rs) ++ pages_from (k + 1) names (parts_of page_rows (drop page_rows rs))
  unfolding pages_from
  pages-some k rs h = rw (parts_next page_rows rs (omega arith) h)

  some-row : (ws : List ℕ) → (length ws ≡ 0 → ⊥) → 1 ≤ length (parts_of picks ws)
  some-row [] d = absurd (d refl)
  some-row (x ∷ ws) d = let n = ap length (parts_next picks (x ∷ ws) p (omega arith)) in omega arith

  -- another page, where words are left
  pub pages-next : (k : ℕ) (ws : List ℕ) → (length ws ≡ 0 → ⊥) → pages_from k names (parts_of page_rows (parts_of picks ws))
      ≡ page k names (parts_of picks (take (page_rows * picks) ws)) ++ pages_from (k + 1) names (parts_of page_rows (parts_of picks (drop (page_rows * picks) ws)))
  pages-next k ws d = pages-some k (parts_of picks ws) (some-row ws d) ∙ rw (take-parts page_rows picks ws p, drop-parts page_rows picks ws p)

  pub pages-none : (k : ℕ) (ws : List ℕ) → length ws ≡ 0 → pages_from k names (parts_of page_rows (parts_of picks ws)) ≡ []
  unfolding pages_from
  pages-none k [] h = rw (parts_none {A = ℕ} picks, parts_none {A = List ℕ} page_rows)
  pages-none k (x ∷ ws) h = absurd (omega arith)

-- ---- the pages that are left

-- the pages from this number on are left, of these words
pub record Paging (before after : List ℕ) (at : ℕ) (names : List (List ℕ)) (ws : List ℕ) (picks number : ℕ) (left : List ℕ) (k : ℕ) : Type 0 where
  pub counted : number + length left ≤ length ws + 2
  pub putting : Putting before after at (pages_from 2 names (parts_of page_rows (parts_of picks ws))) (pages_from number names (parts_of page_rows (parts_of picks left))) k

pub paging-start : (out : List ℕ) (at : ℕ) (names : List (List ℕ)) (ws : List ℕ) (picks : ℕ) → Paging out out at names ws picks 2 ws at
paging-start out at names ws picks = record { counted = omega arith; putting = putting-start out at (pages_from 2 names (parts_of page_rows (parts_of picks ws))) }

module _ {before after : List ℕ} {at : ℕ} {names : List (List ℕ)} {ws : List ℕ} {picks number : ℕ} {left : List ℕ} {k : ℕ}
    (g : Paging before after at names ws picks number left k) (p : 1 ≤ picks) where
  -- the page of a chunk is written
  pub paging-more : (rows rest : List ℕ) → left ≡ rows ++ rest → length rows ≡ min (page_rows * picks) (length left) → 0 < length left
      → {r : ℕ} {new : List ℕ} → Put after new k (page number names (parts_of picks rows)) r → Paging before new at names ws picks (number + 1) rest r
  paging-more rows rest parts size some q =
      let d : length left ≡ 0 → ⊥ = λ z. omega arith in
      rw (chunks-behind (page_rows * picks) rows rest parts size)
      (record {
        counted = omega (arith, g.counted, less-left (page_rows * picks) left (omega arith) d);
        putting = putting-some (putting-same (pages-next names picks p number left d) g.putting) (rw (chunk-first (page_rows * picks) rows rest parts size) at q);
      })

  pub paging-end : length left ≡ 0 → Put before after at (pages_from 2 names (parts_of page_rows (parts_of picks ws))) k
  paging-end h = putting-end (putting-same (pages-none names picks p number left h) g.putting)
