-- Naming: names that are numbered by first appearance.
--
-- In order: a name that fits; the names with one that fits. Assumes nothing.
use mathlib.Core.Path.{◌≡◌, refl, ◌∙◌, sym}
use mathlib.Core.Bool.{Bool, true, false, ◌||◌, cond}
use mathlib.Core.List.{List, [], ◌∷◌, ◌++◌}
use Prim.Native.Nat.{ℕ, suc, ◌<◌, ◌≤◌}
use native.Mathlib.Omega.{arith}
use borrow.Author.Tests.{le-leb, leb-true}
use lib.Dec.{leb, ltb}
use lib.ListN.{length, length-append}
use Rattle.sheet_text.specs.Text.{known}
use Rattle.sheet_lines.specs.Reading.{numbered, fits_table}

or-true : (b : Bool) → b || true ≡ true
or-true true = refl
or-true false = refl

or-false : (b : Bool) → b || false ≡ b
or-false true = refl
or-false false = refl

module _ (name : List ℕ) (names : List (List ℕ)) (ceiling : ℕ) where
  -- ---- a name that fits

  pub fits-is : length names ≤ ceiling → (ltb (length names) ceiling || known name names) ≡ fits_table ceiling name names
  unfolding fits_table numbered
  fits-is h = by (known name names)
    where
      by : (b : Bool) → (ltb (length names) ceiling || b) ≡ leb (length (cond b names (names ++ (name ∷ [])))) ceiling
      by true = or-true (ltb (length names) ceiling) ∙ sym (le-leb (length names) ceiling h)
      by false =
          let z : length (names ++ (name ∷ [])) ≡ suc (length names) = simp length-append (omega arith) in
          rw z (or-false (ltb (length names) ceiling))

  pub fits-bound : fits_table ceiling name names ≡ true → length (numbered name names) ≤ ceiling
  unfolding fits_table
  fits-bound t = leb-true _ ceiling t

  -- ---- the names with one that fits

  pub stays-numbered : known name names ≡ true → names ≡ numbered name names
  unfolding numbered
  stays-numbered k = rw k

  pub new-numbered : known name names ≡ false → names ++ (name ∷ []) ≡ numbered name names
  unfolding numbered
  new-numbered k = rw k

  pub new-fits : known name names ≡ false → fits_table ceiling name names ≡ true → length names < ceiling
  new-fits k t =
      let h = rw (← new-numbered k) at (fits-bound t) in
      let l = length-append names (name ∷ []) in
      omega arith
