-- Reading: what has been read of a sheet, and what one line adds to it (document 01, 'The sheet'; document 02: E1, the star of a label; E4, the
-- fixed object of a node).
--
-- In order: what has been read; the four kinds of lines; any line. Assumes nothing.
use Rattle.std.specs.Prelude.{ℕ, ◌+◌, Bool, true, false, ◌&&◌, not, cond, List, [], ◌∷◌, ◌++◌, leb, ltb, length, get_or}
use Rattle.std.proofs.Math.Option.{Option, none, some}
use Rattle.limits.specs.Limits.{most_classes, most_labels, most_nodes, most_edges}
use Rattle.tables.specs.Order.{pair}
use Rattle.tables.specs.declared.Pair.{Pair}
use Rattle.sheet_lines.specs.declared.Entry.{Entry}
use Rattle.drawing.specs.declared.Node.{Node}
use Rattle.drawing.specs.declared.Edge.{Edge}
use Rattle.drawing.specs.Drawing.{Pattern, node, edge}
use Rattle.sheet_text.specs.Text.{bytes, fields, is_name, is_number, value_of, same, find, known, is_number_or_dash, number_or_any, is_label_name, clashes}

-- ---- what has been read

-- the names of the classes, or of the labels, by number, and their lines in order
pub record Named : Type 0 where
  pub names : List (List ℕ)
  pub lines : List Entry

-- Four sections, 0 to 3. `opened` says that the section's name line has been read. Node k has name k.
pub record Reading : Type 0 where
  pub section : ℕ
  pub opened : Bool
  pub classes : Named
  pub labels : Named
  pub names : List (List ℕ)
  pub drawing : Pattern

unfoldable pub nothing : Reading
nothing = record { section = 0; opened = false; classes = record { names = []; lines = [] }; labels = record { names = []; lines = [] }; names = []; drawing = record { nodes = []; edges = [] } }

unfoldable pub turn_to : ℕ → Bool → Reading → Reading
turn_to s o r = record { section = s; opened = o; classes = r.classes; labels = r.labels; names = r.names; drawing = r.drawing }

unfoldable pub with_classes : Named → Reading → Reading
with_classes t r = record { section = r.section; opened = r.opened; classes = t; labels = r.labels; names = r.names; drawing = r.drawing }

unfoldable pub with_labels : Named → Reading → Reading
with_labels t r = record { section = r.section; opened = r.opened; classes = r.classes; labels = t; names = r.names; drawing = r.drawing }

unfoldable pub with_node : List ℕ → Node → Reading → Reading
with_node n v r =
    let longer : Pattern = record { nodes = r.drawing.nodes ++ (v ∷ []); edges = r.drawing.edges } in
    record { section = r.section; opened = r.opened; classes = r.classes; labels = r.labels; names = r.names ++ (n ∷ []); drawing = longer }

unfoldable pub with_edge : Edge → Reading → Reading
with_edge e r =
    let longer : Pattern = record { nodes = r.drawing.nodes; edges = r.drawing.edges ++ (e ∷ []) } in
    record { section = r.section; opened = r.opened; classes = r.classes; labels = r.labels; names = r.names; drawing = longer }

-- ---- one line; none is a breach

unfoldable pub allow : Bool → Reading → Option Reading
allow true r = some r
allow false r = none

-- "Classes and labels are numbered by first appearance, and lines keep their order within each"
unfoldable pub numbered : List ℕ → List (List ℕ) → List (List ℕ)
numbered name names = cond (known name names) names (names ++ (name ∷ []))

unfoldable pub with_line : List ℕ → Pair → Named → Named
with_line name p t = record { names = numbered name t.names; lines = t.lines ++ (record { table = find name t.names; entry = p } ∷ []) }

-- "a line past 32 classes, 64 labels"
unfoldable pub fits_table : ℕ → List ℕ → List (List ℕ) → Bool
fits_table ceiling name names = leb (length (numbered name names)) ceiling

-- `class object`
unfoldable pub read_class : Reading → List (List ℕ) → Option Reading
read_class r [] = none
read_class r (c ∷ []) = none
read_class r (c ∷ o ∷ []) =
    allow (is_name c && fits_table most_classes c r.classes.names && is_number o)
    (with_classes (with_line c (pair (value_of o) (value_of o)) r.classes) r)
read_class r (c ∷ o ∷ x ∷ xs) = none

-- `label from to`: "a star follows its name on every line"; "A label both with and without its star is 14"
unfoldable pub read_label : Reading → List (List ℕ) → Option Reading
read_label r [] = none
read_label r (l ∷ []) = none
read_label r (l ∷ u ∷ []) = none
read_label r (l ∷ u ∷ v ∷ []) =
    allow (is_label_name l && not (clashes l r.labels.names) && fits_table most_labels l r.labels.names && is_number u && is_number v)
    (with_labels (with_line l (pair (value_of u) (value_of v)) r.labels) r)
read_label r (l ∷ u ∷ v ∷ x ∷ xs) = none

-- `node class pick fixed`: "an unknown or doubled node name, an unknown class ..., or a line past ... 12 nodes"
unfoldable pub read_node : Reading → List (List ℕ) → Option Reading
read_node r [] = none
read_node r (n ∷ []) = none
read_node r (n ∷ c ∷ []) = none
read_node r (n ∷ c ∷ k ∷ []) = none
read_node r (n ∷ c ∷ k ∷ f ∷ []) =
    allow (is_name n && not (known n r.names) && known c r.classes.names && is_number k && is_number_or_dash f && ltb (length r.drawing.nodes) most_nodes)
    (with_node n (node (find c r.classes.names) (value_of k) (number_or_any f)) r)
read_node r (n ∷ c ∷ k ∷ f ∷ x ∷ xs) = none

-- `edge source target`: "... and in each edge that uses it": a label is known with its star, or without, as on its lines
unfoldable pub read_edge : Reading → List (List ℕ) → Option Reading
read_edge r [] = none
read_edge r (l ∷ []) = none
read_edge r (l ∷ s ∷ []) = none
read_edge r (l ∷ s ∷ t ∷ []) =
    allow (known l r.labels.names && known s r.names && known t r.names && ltb (length r.drawing.edges) most_edges)
    (with_edge (edge (find l r.labels.names) (find s r.names) (find t r.names)) r)
read_edge r (l ∷ s ∷ t ∷ x ∷ xs) = none

-- a line of values, by its section
unfoldable pub read_values : Reading → List (List ℕ) → Option Reading
read_values r fs =
    let read : Reading → List (List ℕ) → Option Reading = get_or (read_class ∷ read_label ∷ read_node ∷ read_edge ∷ []) r.section (λ x y. none) in
    read r fs

-- "sections split by one empty line"
unfoldable pub end_section : Reading → Option Reading
end_section r = allow (ltb r.section 3) (turn_to (r.section + 1) false r)

unfoldable pub read_opened : Reading → List ℕ → Option Reading
read_opened r [] = end_section r
read_opened r (b ∷ bs) = read_values r (fields (b ∷ bs))

-- "Each section is a line of names, then lines of values"; "The four name lines are those shown below"
unfoldable pub headers : List (List ℕ)
headers = bytes "class object" ∷ bytes "label from to" ∷ bytes "node class pick fixed" ∷ bytes "edge source target" ∷ []

unfoldable pub read_header : Reading → List ℕ → Option Reading
read_header r line = allow (same line (get_or headers r.section [])) (turn_to r.section true r)

unfoldable pub by_stage : Bool → Reading → List ℕ → Option Reading
by_stage true r line = read_opened r line
by_stage false r line = read_header r line

unfoldable pub read_line : Reading → List ℕ → Option Reading
read_line r line = by_stage r.opened r line
