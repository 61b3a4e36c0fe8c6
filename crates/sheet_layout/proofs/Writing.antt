-- Writing: the lines of a page, partly written.
--
-- In order: spaces; text set right; what is left of a line; the line of a number. Assumes nothing.
use Prim.Native.Nat.{ℕ, ◌+◌, ◌*◌, ◌-◌, ◌<◌, ◌≤◌}
use native.Mathlib.Omega.{arith}
use mathlib.Core.Path.{◌≡◌, sym, ap, ◌∙◌}
use mathlib.Core.List.{List, [], ◌∷◌, ◌++◌, flat_map, append_assoc}
use lib.ListN.{length, replicate, length-append, replicate-append-replicate}
use Rattle.limits.specs.Limits.{most_columns, column_width, line_width}
use Rattle.sheet_text.specs.Text.{bytes, digits}
use Rattle.sheet_writer.specs.inner.Written.{Put}
use Rattle.sheet_writer.proofs.Putting.{put-nothing, put_same, put_then}
use Rattle.sheet_layout.specs.Pages.{set_right, column_line, number_line}

-- ---- spaces

-- i spaces of n
pub record Spacing (before after : List ℕ) (at n i k : ℕ) : Type 0 where
  pub up_to : i ≤ n
  pub put : Put before after at (replicate i 32) k

pub spacing-start : (out : List ℕ) (at n : ℕ) → Spacing out out at n 0 at
spacing-start out at n = record { up_to = omega arith; put = put-nothing out at }

module _ {before after : List ℕ} {at n i k : ℕ} (s : Spacing before after at n i k) where
  pub spacing-more : i < n → {new : List ℕ} {r : ℕ} → Put after new k (32 ∷ []) r → Spacing before new at n (i + 1) r
  spacing-more h p = record { up_to = omega arith; put = put_same (replicate-append-replicate i 1 32) (put_then s.put p) }

  pub spacing-end : n ≤ i → Put before after at (replicate n 32) k
  spacing-end h = let u = s.up_to in let z : i ≡ n = omega arith in put_same (ap (λ (m : ℕ). replicate m 32) z) s.put

-- ---- text set right

pub right-put : (width : ℕ) {before mid after text : List ℕ} {at n k r : ℕ} → n ≡ width - length text → Put before mid at (replicate n 32) k → Put mid after k text r
    → Put before after at (set_right width text) r
unfolding set_right
right-put width {text = text} e p q = put_same (ap (λ (m : ℕ). replicate m 32 ++ text) e) (put_then p q)

-- a field in its column: spaces for what its width leaves, then its text
pub column-put : {before mid after text : List ℕ} {at w n k r : ℕ} → w ≡ length text → n ≡ column_width - w → Put before mid at (replicate n 32) k → Put mid after k text r
    → Put before after at (set_right column_width text) r
column-put e z p q = right-put column_width (z ∙ ap (λ (m : ℕ). column_width - m) e) p q

-- ---- what is left of a line

-- so many columns are used
unfoldable pub line_left : ℕ → List (List ℕ) → List ℕ
line_left used fs = flat_map (set_right column_width) fs ++ replicate (column_width * (most_columns - (used + length fs))) 32 ++ (10 ∷ [])

pub left-whole : (fs : List (List ℕ)) → column_line fs ≡ line_left 0 fs
unfolding column_line line_left
left-whole fs = let z : 0 + length fs ≡ length fs = omega arith in rw z

pub left-next : (used : ℕ) (f : List ℕ) (fs : List (List ℕ)) → line_left used (f ∷ fs) ≡ set_right column_width f ++ line_left (used + 1) fs
unfolding line_left flat_map
left-next used f fs = let z : used + length (f ∷ fs) ≡ used + 1 + length fs = omega arith in rw z (simp append_assoc)

pub left_end : (used : ℕ) → line_left used [] ≡ replicate (column_width * (most_columns - used)) 32 ++ (10 ∷ [])
unfolding line_left flat_map
left_end used = let z : used + length {A = List ℕ} [] ≡ used = omega arith in rw z

-- ---- the line of a page's number

word-length : {word : List ℕ} → word ≡ bytes "page " → length word ≡ 5
unfolding bytes
word-length e = ap length e

pub number_put : {word : List ℕ} (k : ℕ) {n : ℕ} → word ≡ bytes "page " → n ≡ line_width - (5 + length (digits k)) → replicate n 32 ++ word ++ digits k ++ (10 ∷ []) ≡ number_line k
unfolding number_line set_right
number_put {word} k {n} e z =
    let l : n ≡ line_width - length (word ++ digits k) = z ∙ ap (λ (m : ℕ). line_width - m) (sym (length-append word (digits k) ∙ ap (λ (m : ℕ). m + length (digits k)) (word-length e))) in
    rw (← e, l) (ap (λ (bs : List ℕ). bs ++ (10 ∷ [])) (append_assoc (replicate (line_width - length (word ++ digits k)) 32) word (digits k)))
