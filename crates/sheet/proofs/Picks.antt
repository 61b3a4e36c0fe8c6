-- Picks: the length of a row, and words cut into rows again. Assumes nothing.
use Prim.Native.Nat.{ℕ, suc, ◌≤◌}
use native.Mathlib.Omega.{arith}
use mathlib.Core.Bool.{Bool, true, false, cond}
use mathlib.Core.Path.{◌≡◌, refl, ap, ◌∙◌}
use mathlib.Core.List.{List, [], ◌∷◌, ◌++◌, flat_map}
use lib.Dec.{eqb}
use lib.ListN.{length}
use Rattle.std.specs.List.{filter}
use Rattle.tables.specs.Lists.{◌∈◌, keep}
use Rattle.tables.specs.Order.{pair}
use Rattle.feed.specs.Feed.{class_table}
use Rattle.drawing.specs.declared.Node.{Node}
use Rattle.drawing.specs.Drawing.{Pattern, is_picked}
use Rattle.drawing.specs.Embeddings.{picked, rows}
use Rattle.drawing.proofs.Embeddings.{in_rows}
use Rattle.query_rows.specs.Rows.{row_words}
use Rattle.query_answer.specs.Query.{pick_count}
use Rattle.sheet_writer.specs.Parts.{parts_of}
use Rattle.sheet_writer.proofs.Parts.{parts-joined}

-- a row has one object for each picked node
picked-length : (vs : List Node) (at : List ℕ) → length at ≡ length vs → length (picked vs at) ≡ length (keep is_picked vs)
unfolding picked keep
picked-length [] at e = refl
picked-length (v ∷ vs) [] e = absurd (omega arith)
picked-length (v ∷ vs) (x ∷ at) e = step (is_picked v) (picked-length vs at (omega arith))
  where
    step : (b : Bool) → length (picked vs at) ≡ length (keep is_picked vs) → length (cond b (x ∷ picked vs at) (picked vs at)) ≡ length (cond b (v ∷ keep is_picked vs) (keep is_picked vs))
    step true h = ap suc h
    step false h = h

joined : (rs : List (List ℕ)) → row_words rs ≡ flat_map (λ r. r) rs
unfolding row_words flat_map
joined [] = refl
joined (r ∷ rs) = ap (λ (ws : List ℕ). r ++ ws) (joined rs)

module _ (feed : List ℕ) (p : Pattern) (sides : (k u v : ℕ) → pair u v ∈ class_table feed k → u ≡ v) where
  pub row-length : (r : List ℕ) → r ∈ rows feed p → length r ≡ pick_count p
  unfolding pick_count
  row-length r m =
      let t = (in_rows feed p sides {r = r}).0 m in
      ap (λ (x : List ℕ). length x) t.2 ∙ picked-length p.nodes t.0 t.1.size

  -- the words of the rows, cut into rows again
  pub rows_back : 1 ≤ pick_count p → parts_of (pick_count p) (row_words (rows feed p)) ≡ rows feed p
  rows_back some = ap (parts_of (pick_count p)) (joined (rows feed p)) ∙ parts-joined (pick_count p) (rows feed p) some row-length

-- the picked nodes, as the library filters them
filter-keep : (p : Node → Bool) (vs : List Node) → filter p vs ≡ keep p vs
unfolding keep
filter-keep p [] = refl
filter-keep p (v ∷ vs) = ap (λ r. cond (p v) (v ∷ r) r) (filter-keep p vs)

pub picked-filtered : (vs : List Node) → length (filter (λ v. eqb v.pick 1) vs) ≡ length (keep is_picked vs)
unfolding is_picked
picked-filtered vs = ap length (filter-keep (λ v. eqb v.pick 1) vs)
