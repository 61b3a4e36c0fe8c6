-- Picked: what a listing and a page name their columns by (document 01, 'The sheet': "the picked names in node order"). Assumes nothing.
use Rattle.std.specs.Prelude.{ℕ, cond, List, [], ◌∷◌}
use Rattle.drawing.specs.declared.Node.{Node}
use Rattle.drawing.specs.Drawing.{is_picked}

unfoldable pub picked_names : List (List ℕ) → List Node → List (List ℕ)
picked_names [] vs = []
picked_names (n ∷ ns) [] = []
picked_names (n ∷ ns) (v ∷ vs) = let rest = picked_names ns vs in cond (is_picked v) (n ∷ rest) rest
