-- Parts: what the functions on texts promise.
--
-- In order: a text cut at a separator; the fields of a line; names by number. Assumes nothing.
use Rattle.std.specs.Prelude.{ℕ, ◌+◌, ◌≡◌, List, [], ◌∷◌, map, length, take, Option}
use Rattle.std.specs.Option.{MatchOption, unwrap_or, is_some}
use denote.Ref.{Bor}
use Rattle.sheet_text.specs.Text.{split, fields, find, known}
use Rattle.sheet_text.specs.declared.names.Names.{Names}

-- a text that is one part
abbrev pub Whole : ℕ → List ℕ → Type 0
Whole sep text = split sep text ≡ record { first = text; rest = [] }

-- a text that is the part a, a separator, and what follows
pub record Apart (sep : ℕ) (text a rest : List ℕ) : Type 0 where
  pub parts : split sep text ≡ record { first = a; rest = (split sep rest).first ∷ (split sep rest).rest }
  pub size : length text ≡ length a + 1 + length rest

abbrev pub Cut : ℕ → List ℕ → Option (Bor (List ℕ) × Bor (List ℕ)) → Type 0
Cut sep text r = MatchOption r (Whole sep text) (λ p. Apart sep text p.0.now p.1.now)

-- ---- texts by their references

abbrev pub texts : List (Bor (List ℕ)) → List (List ℕ)
texts xs = map (λ x. x.now) xs

-- the fields of a line that has two; three; four
abbrev pub Two : List ℕ → Option (Bor (List ℕ) × Bor (List ℕ)) → Type 0
Two line r = MatchOption r (length (fields line) ≡ 2 → ⊥) (λ f. fields line ≡ f.0.now ∷ f.1.now ∷ [])

abbrev pub Three : List ℕ → Option (Bor (List ℕ) × Bor (List ℕ) × Bor (List ℕ)) → Type 0
Three line r = MatchOption r (length (fields line) ≡ 3 → ⊥) (λ f. fields line ≡ f.0.now ∷ f.1.now ∷ f.2.now ∷ [])

abbrev pub Four : List ℕ → Option (Bor (List ℕ) × Bor (List ℕ) × Bor (List ℕ) × Bor (List ℕ)) → Type 0
Four line r = MatchOption r (length (fields line) ≡ 4 → ⊥) (λ f. fields line ≡ f.0.now ∷ f.1.now ∷ f.2.now ∷ f.3.now ∷ [])

-- ---- names by number

unfoldable pub names_of : Names → List (List ℕ)
names_of x = texts (take x.n x.texts)

-- the place of a name among names
pub record Found (name : List ℕ) (names : List (List ℕ)) (r : Option ℕ) : Type 0 where
  pub place : unwrap_or r (length names) ≡ find name names
  pub known : is_some r ≡ known name names
