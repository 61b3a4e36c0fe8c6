-- Tests: what a line gives, by the number of its fields and by the test that the line must pass.
--
-- In order: another number of fields; the four kinds of lines; any line. Assumes nothing.
use mathlib.Core.Path.{◌≡◌, refl}
use mathlib.Core.Bool.{Bool, true, false, ◌&&◌, not}
use mathlib.Core.List.{List, [], ◌∷◌}
use mathlib.Core.Option.{none}
use Prim.Native.Nat.{ℕ}
use native.Mathlib.Omega.{arith}
use lib.Dec.{ltb}
use lib.ListN.{length, get_or}
use Rattle.limits.specs.Limits.{most_classes, most_labels, most_nodes, most_edges}
use Rattle.tables.specs.Order.{pair}
use Rattle.drawing.specs.Drawing.{node, edge}
use Rattle.sheet_text.specs.Text.{fields, is_name, is_number, value_of, same, find, known, is_number_or_dash, number_or_any, is_label_name, clashes}
use Rattle.sheet_lines.specs.Reading.{Reading, allow, turn_to, with_classes, with_labels, with_node, with_edge, with_line, fits_table}
use Rattle.sheet_lines.specs.Reading.{read_class, read_label, read_node, read_edge, read_values, end_section, read_opened, headers, read_header, by_stage, read_line}

-- ---- another number of fields

module _ (v : Reading) where
  pub class-fields : (fs : List (List ℕ)) → (length fs ≡ 2 → ⊥) → none ≡ read_class v fs
  unfolding read_class
  class-fields [] d = refl
  class-fields (c ∷ []) d = refl
  class-fields (c ∷ o ∷ []) d = absurd (d refl)
  class-fields (c ∷ o ∷ x ∷ xs) d = refl

  pub label-fields : (fs : List (List ℕ)) → (length fs ≡ 3 → ⊥) → none ≡ read_label v fs
  unfolding read_label
  label-fields [] d = refl
  label-fields (l ∷ []) d = refl
  label-fields (l ∷ x ∷ []) d = refl
  label-fields (l ∷ x ∷ y ∷ []) d = absurd (d refl)
  label-fields (l ∷ x ∷ y ∷ z ∷ zs) d = refl

  pub node-fields : (fs : List (List ℕ)) → (length fs ≡ 4 → ⊥) → none ≡ read_node v fs
  unfolding read_node
  node-fields [] d = refl
  node-fields (n ∷ []) d = refl
  node-fields (n ∷ c ∷ []) d = refl
  node-fields (n ∷ c ∷ k ∷ []) d = refl
  node-fields (n ∷ c ∷ k ∷ f ∷ []) d = absurd (d refl)
  node-fields (n ∷ c ∷ k ∷ f ∷ x ∷ xs) d = refl

  pub edge-fields : (fs : List (List ℕ)) → (length fs ≡ 3 → ⊥) → none ≡ read_edge v fs
  unfolding read_edge
  edge-fields [] d = refl
  edge-fields (l ∷ []) d = refl
  edge-fields (l ∷ x ∷ []) d = refl
  edge-fields (l ∷ x ∷ y ∷ []) d = absurd (d refl)
  edge-fields (l ∷ x ∷ y ∷ z ∷ zs) d = refl

-- ---- the four kinds of lines

module _ (v : Reading) {fs : List (List ℕ)} {a b : List ℕ} where
  pub class-shown : fs ≡ a ∷ b ∷ [] →
      allow (is_name a && fits_table most_classes a v.classes.names && is_number b) (with_classes (with_line a (pair (value_of b) (value_of b)) v.classes) v) ≡ read_class v fs
  unfolding read_class
  class-shown e = rw e

  module _ {c : List ℕ} where
    pub label-shown : fs ≡ a ∷ b ∷ c ∷ [] →
        allow (is_label_name a && not (clashes a v.labels.names) && fits_table most_labels a v.labels.names && is_number b && is_number c)
        (with_labels (with_line a (pair (value_of b) (value_of c)) v.labels) v) ≡ read_label v fs
    unfolding read_label
    label-shown e = rw e

    pub edge-shown : fs ≡ a ∷ b ∷ c ∷ [] →
        allow (known a v.labels.names && known b v.names && known c v.names && ltb (length v.drawing.edges) most_edges)
        (with_edge (edge (find a v.labels.names) (find b v.names) (find c v.names)) v) ≡ read_edge v fs
    unfolding read_edge
    edge-shown e = rw e

    pub node-shown : {d : List ℕ} → fs ≡ a ∷ b ∷ c ∷ d ∷ [] →
        allow (is_name a && not (known a v.names) && known b v.classes.names && is_number c && is_number_or_dash d && ltb (length v.drawing.nodes) most_nodes)
        (with_node a (node (find b v.classes.names) (value_of c) (number_or_any d)) v) ≡ read_node v fs
    unfolding read_node
    node-shown e = rw e

-- ---- any line

module _ (v : Reading) where
  pub values_of : (fs : List (List ℕ)) (k : ℕ) → v.section ≡ k → get_or (read_class ∷ read_label ∷ read_node ∷ read_edge ∷ []) k (λ x y. none) v fs ≡ read_values v fs
  unfolding read_values
  values_of fs k e = rw e

  pub header-tested : (line : List ℕ) (b : Bool) → same line (get_or headers v.section []) ≡ b → allow b (turn_to v.section true v) ≡ read_header v line
  unfolding read_header
  header-tested line b t = rw t

  pub header-first : (line : List ℕ) → v.opened ≡ false → read_header v line ≡ read_line v line
  unfolding read_line by_stage
  header-first line o = rw o

  module _ (o : v.opened ≡ true) where
    pub line-of-values : (line : List ℕ) → (length line ≡ 0 → ⊥) → read_values v (fields line) ≡ read_line v line
    unfolding read_line by_stage read_opened
    line-of-values [] h = absurd (h refl)
    line-of-values (b ∷ bs) h = rw o

    pub line-of-end : (line : List ℕ) → length line ≡ 0 → end_section v ≡ read_line v line
    unfolding read_line by_stage read_opened
    line-of-end [] h = rw o
    line-of-end (b ∷ bs) h = absurd (omega arith)
