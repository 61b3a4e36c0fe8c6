-- Lines: a line, field by field, and the line of a refusal.
--
-- In order: what is left of a line; the line of a refusal. Assumes nothing.
use Prim.Native.Nat.{ℕ, ◌+◌}
use native.Mathlib.Omega.{arith}
use mathlib.Core.Path.{◌≡◌, refl, ap, ◌∙◌}
use mathlib.Core.Bool.{Bool, true, false}
use mathlib.Core.List.{List, [], ◌∷◌, ◌++◌, append_assoc}
use lib.Dec.{eqb}
use borrow.Author.Tests.{ne_eqb}
use Rattle.answers.specs.Verdict.{Verdict, Says}
use Rattle.sheet_text.specs.Text.{bytes, digits}
use Rattle.sheet_listing.specs.Listing.{line, refusal}
use Rattle.sheet_listing.specs.inner.Written.{gap}

-- ---- what is left of a line

-- the fields that are left, the first of them the line's first or not, and the line feed
unfoldable pub line_from : Bool → List (List ℕ) → List ℕ
line_from first [] = 10 ∷ []
line_from first (f ∷ fs) = gap first ++ f ++ line_from false fs

line-cons : (f : List ℕ) (fs : List (List ℕ)) → line (f ∷ fs) ≡ f ++ line_from false fs
unfolding line line_from gap
line-cons f [] = refl
line-cons f (g ∷ fs) = rw (line-cons g fs)

pub line-whole : (fs : List (List ℕ)) → line fs ≡ line_from true fs
unfolding line line_from gap
line-whole [] = refl
line-whole (f ∷ fs) = line-cons f fs

pub line-next : (first : Bool) (f : List ℕ) (fs : List (List ℕ)) → line_from first (f ∷ fs) ≡ (gap first ++ f) ++ line_from false fs
unfolding line_from
line-next first f fs = simp append_assoc

pub line-end : (first : Bool) → line_from first [] ≡ 10 ∷ []
unfolding line_from
line-end first = refl

-- the same by the number of the field
pub field-next : (i : ℕ) (f : List ℕ) (fs : List (List ℕ)) → line_from (eqb i 0) (f ∷ fs) ≡ (gap (eqb i 0) ++ f) ++ line_from (eqb (i + 1) 0) fs
field-next i f fs = line-next (eqb i 0) f fs ∙ ap (λ (b : Bool). (gap (eqb i 0) ++ f) ++ line_from b fs) (rw (ne_eqb (i + 1) 0 (λ z. omega arith)))

-- ---- the line of a refusal

pub refusal-text : {word : List ℕ} {n p : ℕ} (v : Verdict) → word ≡ bytes "refused" → Says v n p → word ++ (gap false ++ digits n) ++ (gap false ++ digits p) ++ (10 ∷ []) ≡ refusal v
unfolding refusal line gap
refusal-text v e s = rw (e, s.says, s.place) (simp append_assoc)
