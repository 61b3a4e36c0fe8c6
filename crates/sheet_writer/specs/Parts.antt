-- Parts: a list cut into parts of one length, the last of which may be shorter: words into rows, rows into pages, text into lines and columns.
-- Assumes nothing.
use Rattle.std.specs.Prelude.{ℕ, zero, suc, List, [], ◌∷◌, length, take, drop}

module _ {A : Type 0} where
  -- at most so many parts
  unfoldable pub parts_within : ℕ → ℕ → List A → List (List A)
  parts_within zero size xs = []
  parts_within (suc most) size [] = []
  parts_within (suc most) size (x ∷ xs) = take size (x ∷ xs) ∷ parts_within most size (drop size (x ∷ xs))

  -- all of them: no list has more parts than elements
  unfoldable pub parts_of : ℕ → List A → List (List A)
  parts_of size xs = parts_within (length xs) size xs
