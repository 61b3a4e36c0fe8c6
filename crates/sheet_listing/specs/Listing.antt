-- Listing: what the sheet query prints (document 01, 'The sheet').
--
-- In order: a line; the listing of rows and of a refusal; the lent slice. Assumes nothing.
use Rattle.std.specs.Prelude.{ℕ, cond, leb, length, drop, replicate}
use mathlib.Core.List.{List, [], ◌∷◌, ◌++◌, map, flat_map}
use Rattle.answers.specs.Verdict.{Verdict, number, location}
use Rattle.sheet_text.specs.Text.{bytes, digits}

-- fields with one space between them, and a line feed: "Every line ends in a line feed"
unfoldable pub line : List (List ℕ) → List ℕ
line [] = 10 ∷ []
line (f ∷ []) = f ++ (10 ∷ [])
line (f ∷ g ∷ fs) = f ++ (32 ∷ line (g ∷ fs))

-- "the picked names in node order, then one row a line. No rows print the names only"
unfoldable pub listing : List (List ℕ) → List (List ℕ) → List ℕ
listing names found = line names ++ flat_map (λ r. line (map digits r)) found

-- "A refusal prints `refused`, number, place on one line"
unfoldable pub refusal : Verdict → List ℕ
refusal v = line (bytes "refused" ∷ digits (number v) ∷ digits (location v) ∷ [])

-- "One that does not fit gives length 0 and a zeroed slice; otherwise the bytes after the listing are untouched"
pub record Listed : Type 0 where
  pub length' : ℕ
  pub buffer : List ℕ

-- a call's answer, and the slice as it leaves it
abbrev pub listed : ℕ → List ℕ → Listed
listed r after = record { length' = r; buffer = after }

unfoldable pub listed_in : List ℕ → List ℕ → Listed
listed_in text buffer =
    cond (leb (length text) (length buffer)) (listed (length text) (text ++ drop (length text) buffer)) (listed 0 (replicate (length buffer) 0))
