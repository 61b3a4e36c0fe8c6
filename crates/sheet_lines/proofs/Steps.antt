-- Steps: a line that was read, or not, leaves a state that shows what the definition gives, and is in bounds.
--
-- In order: bounds; a line that is none; a class line; a label line; a node line; an edge line; the lines that touch no values; any line. Assumes nothing.
use mathlib.Core.Path.{◌≡◌, refl, ◌∙◌, sym, ap}
use mathlib.Core.Bool.{Bool, true, false, ◌&&◌, not}
use mathlib.Core.List.{List, [], ◌∷◌, ◌++◌}
use mathlib.Core.Option.{Option, none}
use Prim.Native.Nat.{ℕ, ◌+◌, ◌<◌, ◌≤◌}
use native.Mathlib.Omega.{arith}
use native.Mathlib.Decide.{dec_lt}
use borrow.Author.Tests.{le-ltb, lt-ltb, ltb-true, le-leb}
use lib.Dec.{eqb, ltb}
use denote.Enum.Bare.{sameb}
use lib.ListN.{length, get_or, length-append}
use Rattle.std.proofs.Common.{Some, None}
use Rattle.std.specs.Prelude.{Result, is_ok, Option as Maybe}
use Rattle.std.specs.Option.{is_some}
use Rattle.limits.specs.Limits.{most_classes, most_labels, most_nodes, most_edges}
use Rattle.answers.specs.Verdict.{is_accepted}
use Rattle.answers.specs.declared.Refusal.{Refusal}
use Rattle.answers.proofs.Refusing.{accepts}
use Rattle.tables.specs.Order.{pair}
use Rattle.tables.proofs.Tests.{both_true, true-not-false}
use Rattle.drawing.specs.declared.Drawing.{Drawing}
use Rattle.drawing.specs.declared.Node.{Node}
use Rattle.drawing.specs.declared.Edge.{Edge}
use Rattle.drawing.specs.Drawing.{node, edge}
use Rattle.drawing.specs.Builder.{view, empty_drawing, Line, with_node, with_edge, line_of, line_where, too_many}
use Rattle.drawing.proofs.Builder.{Roomy, view-empty, empty-counts, empty-roomy, shown-nodes, shown-edges, full-nodes, full-edges}
use Rattle.drawing.proofs.Builder.{more_nodes, more_edges, node-accepted, node-added, node-roomy, view-node, edge-roomy, edge-accepted, edge-added, view-edge}
use Rattle.sheet_text.specs.Text.{fields, is_name, is_number, value_of, same, find, known, is_number_or_dash, number_or_any, is_label_name, clashes}
use Rattle.sheet_text.specs.inner.Parts.{names_of, Found}
use Rattle.sheet_text.specs.declared.names.Names.{Names}
use Rattle.sheet_text.proofs.Words.{name-length, number}
use Rattle.sheet_text.proofs.Finding.{find-bound, length-names}
use Rattle.sheet_text.proofs.Parts.{two-size, three-size}
use Rattle.sheet_lines.specs.declared.entries.Tables.{Tables}
use Rattle.sheet_lines.specs.declared.State.{State}
use Rattle.sheet_lines.specs.declared.section.Section.{Section}
use Rattle.sheet_lines.specs.declared.section.Section.TheVariants.{Classes, Labels, Nodes, Edges}
use Rattle.sheet_lines.specs.Reading.{Reading, allow, turn_to, with_line, fits_table, with_classes, with_labels, with_node as add_node, with_edge as add_edge}
use Rattle.sheet_lines.specs.Reading.{read_class, read_label, read_node, read_edge, end_section, headers, read_header, read_values, read_line, nothing}
use Rattle.sheet_lines.specs.inner.State.{tables_read, view_of, Linable, nothing_read, number_of, Empty, Fine, Ready, LineRead, LineTaken}
use Rattle.sheet_lines.specs.contracts.section.Section.{the_type}
use Rattle.sheet_lines.proofs.Naming.{fits-bound}
use Rattle.sheet_lines.proofs.Adding.{names-after, lines-after}
use Rattle.sheet_lines.proofs.Tests.{class-shown, label-shown, node-shown, edge-shown, values_of, header-tested, header-first, line-of-values, line-of-end}

and-false : (b : Bool) → b && false ≡ false
and-false true = refl
and-false false = refl

and-true : (b : Bool) → b && true ≡ b
and-true true = refl
and-true false = refl

-- a number of a name fits a word
pub place-small : {name : List ℕ} (x : Names) {k : ℕ} → Found name (names_of x) (Some k) → k ≤ most_labels
place-small {name} x f = omega (arith, f.place, find-bound name (names_of x), length-names x, x.few)

-- a line that was read is not none
was-read : {A : Type 0} → true ≡ false → A
was-read e = absurd (true-not-false refl e)

-- ---- a line that is none

module _ {line : List ℕ} {x : State} (g : Ready line x) where
  pub unread : {reads : Reading → Option Reading} → none ≡ reads (view_of x) → LineTaken line x x None reads
  unfolding allow
  unread e = record { shown = record { answer = e; fine = g.fine; count = omega arith }; kept = λ s. refl }

  -- ---- a class line

  module _ {a b : List ℕ} (e : fields line ≡ a ∷ b ∷ []) where
    pub class-unread : (is_name a && fits_table most_classes a (names_of x.classes.names) && is_number b) ≡ false → LineTaken line x x None (λ v. read_class v (fields line))
    unfolding view_of allow tables_read
    class-unread t = unread (rw t at (class-shown (view_of x) e))

    module _ (t : (is_name a && fits_table most_classes a (names_of x.classes.names) && is_number b) ≡ true) where
      class-size : 3 ≤ length line
      class-size =
          let p = simp both_true at t in
          omega (arith, two-size line e, name-length a p.0.0, (number b p.1).some)

      pub class-linable : Linable a x.classes
      unfolding fits_table
      class-linable =
          let p = simp both_true at t in
          let h = fits-bound a (names_of x.classes.names) most_classes p.0.1 in
          record { fits = le-leb _ most_labels (omega arith); room = omega (arith, class-size, g.short) }

      pub class-read : {u : ℕ} (new : Tables) → u ≡ value_of b → tables_read new ≡ with_line a (pair u u) (tables_read x.classes) →
          LineTaken line x (record { section = x.section; opened = x.opened; classes = new; labels = x.labels; nodes = x.nodes; drawing = x.drawing }) (Some tt) (λ v. read_class v (fields line))
      unfolding view_of allow with_classes tables_read
      class-read {u = u} new value m =
          let f = g.fine in
          let p = simp both_true at t in
          let h = fits-bound a (names_of x.classes.names) most_classes p.0.1 in
          record {
            shown = record {
              answer = rw (m, value) (rw t at (class-shown (view_of x) e));
              fine = record { classes = rw (names-after a _ x.classes new m) h; labels = f.labels; nodes = f.nodes; drawn = f.drawn; node_room = f.node_room; edge_room = f.edge_room };
              count = omega (arith, class-size, lines-after a (pair u u) x.classes new m);
            };
            kept = was-read;
          }

  -- ---- a label line

  module _ {a b c : List ℕ} (e : fields line ≡ a ∷ b ∷ c ∷ []) where
    pub label-unread : (is_label_name a && not (clashes a (names_of x.labels.names)) && fits_table most_labels a (names_of x.labels.names) && is_number b && is_number c) ≡ false →
        LineTaken line x x None (λ v. read_label v (fields line))
    unfolding view_of allow tables_read
    label-unread t = unread (rw t at (label-shown (view_of x) e))

    module _ (t : (is_label_name a && not (clashes a (names_of x.labels.names)) && fits_table most_labels a (names_of x.labels.names) && is_number b && is_number c) ≡ true) where
      label-size : 3 ≤ length line
      label-size =
          let p = simp both_true at t in
          omega (arith, three-size line e, (number c p.1).some)

      pub label-linable : Linable a x.labels
      label-linable =
          let p = simp both_true at t in
          record { fits = p.0.0.1; room = omega (arith, label-size, g.short) }

      pub label-read : {u w : ℕ} (new : Tables) → u ≡ value_of b → w ≡ value_of c → tables_read new ≡ with_line a (pair u w) (tables_read x.labels) →
          LineTaken line x (record { section = x.section; opened = x.opened; classes = x.classes; labels = new; nodes = x.nodes; drawing = x.drawing }) (Some tt) (λ v. read_label v (fields line))
      unfolding view_of allow with_labels tables_read
      label-read {u = u} {w = w} new left right m =
          let f = g.fine in
          let p = simp both_true at t in
          let h = fits-bound a (names_of x.labels.names) most_labels p.0.0.1 in
          record {
            shown = record {
              answer = rw (m, left, right) (rw t at (label-shown (view_of x) e));
              fine = record { classes = f.classes; labels = rw (names-after a _ x.labels new m) h; nodes = f.nodes; drawn = f.drawn; node_room = f.node_room; edge_room = f.edge_room };
              count = omega (arith, label-size, lines-after a (pair u w) x.labels new m);
            };
            kept = was-read;
          }

-- ---- the drawing, with one node more or one edge more, where it has room

-- the count and what is shown are within the ceiling at the same time
nodes-room : (d : Drawing) → Roomy d → ltb (length (view d).nodes) most_nodes ≡ ltb d.n most_nodes
nodes-room d r = by (dec_lt d.n most_nodes)
  where
    by : Dec (d.n < most_nodes) → ltb (length (view d).nodes) most_nodes ≡ ltb d.n most_nodes
    by (yes h) = ap (λ (n : ℕ). ltb n most_nodes) (sym (shown-nodes d r (omega arith)))
    by (no h) = rw (← full-nodes d r (omega arith), le-ltb d.n most_nodes (omega arith))

edges-room : (d : Drawing) → Roomy d → ltb (length (view d).edges) most_edges ≡ ltb d.e most_edges
edges-room d r = by (dec_lt d.e most_edges)
  where
    by : Dec (d.e < most_edges) → ltb (length (view d).edges) most_edges ≡ ltb d.e most_edges
    by (yes h) = ap (λ (n : ℕ). ltb n most_edges) (sym (shown-edges d r (omega arith)))
    by (no h) = rw (← full-edges d r (omega arith), le-ltb d.e most_edges (omega arith))

line-drawn : {T : Type 0} (r : Result T Refusal) (d : Drawing) (l : Line) → line_of r d ≡ l → (is_accepted l.verdict ≡ is_ok r) × (d ≡ l.drawing)
unfolding line_of
line-drawn r d l e = (ap (λ m. is_accepted m.verdict) (sym e) ∙ accepts r, ap (λ m. m.drawing) e)

node-left : (d : Drawing) (v : Node) → ltb d.n most_nodes ≡ false → (with_node d v).drawing ≡ d
unfolding with_node line_where too_many
node-left d v t = rw t

edge-left : (d : Drawing) (v : Edge) → ltb d.e most_edges ≡ false → (with_edge d v).drawing ≡ d
unfolding with_edge line_where too_many
edge-left d v t = rw t

roomy-drawing : {x : State} → Fine x → Roomy x.drawing
roomy-drawing f = record { nodes = f.node_room; edges = f.edge_room }

-- ---- a node line

module _ {line : List ℕ} {x : State} (g : Ready line x) {a b c d : List ℕ} (e : fields line ≡ a ∷ b ∷ c ∷ d ∷ []) where
  abbrev classes : List (List ℕ)
  classes = names_of x.classes.names

  pub class-unknown : known b classes ≡ false → LineTaken line x x None (λ v. read_node v (fields line))
  unfolding view_of allow tables_read
  class-unknown k = unread g (rw (k, and-false) at (node-shown (view_of x) e))

  module _ (k : known b classes ≡ true) where
    pub node-unread : (is_name a && not (known a (names_of x.nodes)) && is_number c && is_number_or_dash d) ≡ false → LineTaken line x x None (λ v. read_node v (fields line))
    unfolding view_of allow tables_read
    node-unread t = unread g (rw (k, and-true, t) at (node-shown (view_of x) e))

    module _ (t : (is_name a && not (known a (names_of x.nodes)) && is_number c && is_number_or_dash d) ≡ true) where
      abbrev v : Node
      v = node (find b classes) (value_of c) (number_or_any d)

      shown : allow (ltb x.drawing.n most_nodes) (add_node a v (view_of x)) ≡ read_node (view_of x) (fields line)
      unfolding view_of tables_read
      shown = rw (k, and-true, t, nodes-room x.drawing (roomy-drawing g.fine)) at (node-shown (view_of x) e)

      pub node-refused : {T : Type 0} (r : Result T Refusal) (n : Drawing) → line_of r n ≡ with_node x.drawing v → is_ok r ≡ false →
          LineTaken line x (record { section = x.section; opened = x.opened; classes = x.classes; labels = x.labels; nodes = x.nodes; drawing = n }) None (λ v. read_node v (fields line))
      unfolding allow
      node-refused r n m o =
          let p = line-drawn r n _ m in
          let full : ltb x.drawing.n most_nodes ≡ false = sym (node-accepted x.drawing v) ∙ p.0 ∙ o in
          rw (p.1, node-left x.drawing v full) (unread g (rw full at shown))

      pub node-read : {T : Type 0} (r : Result T Refusal) (n : Drawing) (names : Names) → line_of r n ≡ with_node x.drawing v → is_ok r ≡ true → names_of names ≡ names_of x.nodes ++ (a ∷ []) →
          LineTaken line x (record { section = x.section; opened = x.opened; classes = x.classes; labels = x.labels; nodes = names; drawing = n }) (Some tt) (λ v. read_node v (fields line))
      unfolding allow view_of add_node more_nodes
      node-read r n names m o l =
          let f = g.fine in
          let p = line-drawn r n _ m in
          let room : ltb x.drawing.n most_nodes ≡ true = sym (node-accepted x.drawing v) ∙ p.0 ∙ o in
          let h = ltb-true x.drawing.n most_nodes room in
          let w = node-roomy x.drawing v (roomy-drawing f) in
          let s = length-append (names_of x.nodes) (a ∷ []) in
          let count : n.n ≡ x.drawing.n + 1 = ap (λ d. d.n) (p.1 ∙ node-added x.drawing v h) in
          record {
            shown = record {
              answer = rw (p.1, l, view-node x.drawing v (roomy-drawing f) h) (rw room at shown);
              fine = record {
                classes = f.classes;
                labels = f.labels;
                nodes = rw l (omega (arith, f.drawn));
                drawn = rw l (omega (arith, f.drawn));
                node_room = rw p.1 w.nodes;
                edge_room = rw p.1 w.edges;
              };
              count = omega arith;
            };
            kept = was-read;
          }

-- ---- an edge line

module _ {line : List ℕ} {x : State} (g : Ready line x) {a b c : List ℕ} (e : fields line ≡ a ∷ b ∷ c ∷ []) where
  abbrev labels : List (List ℕ)
  labels = names_of x.labels.names

  abbrev nodes : List (List ℕ)
  nodes = names_of x.nodes

  pub label-unknown : known a labels ≡ false → LineTaken line x x None (λ v. read_edge v (fields line))
  unfolding view_of allow tables_read
  label-unknown k = unread g (rw k at (edge-shown (view_of x) e))

  module _ (k : known a labels ≡ true) where
    pub source-unknown : known b nodes ≡ false → LineTaken line x x None (λ v. read_edge v (fields line))
    unfolding view_of allow tables_read
    source-unknown l = unread g (rw (k, l) at (edge-shown (view_of x) e))

    module _ (l : known b nodes ≡ true) where
      pub target-unknown : known c nodes ≡ false → LineTaken line x x None (λ v. read_edge v (fields line))
      unfolding view_of allow tables_read
      target-unknown m = unread g (rw (k, l, m) at (edge-shown (view_of x) e))

      module _ (t : known c nodes ≡ true) where
        abbrev line-edge : Edge
        line-edge = edge (find a labels) (find b nodes) (find c nodes)

        joined : allow (ltb x.drawing.e most_edges) (add_edge line-edge (view_of x)) ≡ read_edge (view_of x) (fields line)
        unfolding view_of tables_read
        joined = rw (k, l, t, edges-room x.drawing (roomy-drawing g.fine)) at (edge-shown (view_of x) e)

        pub edge-read : {T : Type 0} (r : Result T Refusal) (n : Drawing) → line_of r n ≡ with_edge x.drawing line-edge → (o : Maybe (Unit {0})) → is_some o ≡ is_ok r →
            LineTaken line x (record { section = x.section; opened = x.opened; classes = x.classes; labels = x.labels; nodes = x.nodes; drawing = n }) o (λ v. read_edge v (fields line))
        unfolding view_of add_edge view allow more_edges
        edge-read r n m o q = by (ltb x.drawing.e most_edges) refl
          where
            f : Fine x
            f = g.fine

            p : (is_accepted (with_edge x.drawing line-edge).verdict ≡ is_ok r) × (n ≡ (with_edge x.drawing line-edge).drawing)
            p = line-drawn r n _ m

            same : is_some o ≡ ltb x.drawing.e most_edges
            same = q ∙ sym p.0 ∙ edge-accepted x.drawing line-edge

            by : (b : Bool) → ltb x.drawing.e most_edges ≡ b →
                LineTaken line x (record { section = x.section; opened = x.opened; classes = x.classes; labels = x.labels; nodes = x.nodes; drawing = n }) o (λ v. read_edge v (fields line))
            by true t =
                let h = ltb-true x.drawing.e most_edges t in
                let w = edge-roomy x.drawing line-edge (roomy-drawing f) in
                let count : n.n ≡ x.drawing.n = ap (λ d. d.n) (p.1 ∙ edge-added x.drawing line-edge h) in
                record {
                  shown = record {
                    answer = rw (same, t, p.1, view-edge x.drawing line-edge (roomy-drawing f) h) (rw t at joined);
                    fine = record { classes = f.classes; labels = f.labels; nodes = f.nodes; drawn = count ∙ f.drawn; node_room = rw p.1 w.nodes; edge_room = rw p.1 w.edges };
                    count = omega arith;
                  };
                  kept = λ s. was-read (sym t ∙ sym same ∙ s);
                }
            by false t =
                let z : n ≡ x.drawing = p.1 ∙ edge-left x.drawing line-edge t in
                record {
                  shown = record {
                    answer = rw (same, t) (rw t at joined);
                    fine = rw z f;
                    count = omega arith;
                  };
                  kept = λ s. ap (λ (d : Drawing). record { section = x.section; opened = x.opened; classes = x.classes; labels = x.labels; nodes = x.nodes; drawing = d }) z;
                }

-- ---- lines that touch no values

pub is-last : (k : Section) → sameb the_type k Edges ≡ eqb (number_of k) 3
is-last Classes = refl
is-last Labels = refl
is-last Nodes = refl
is-last Edges = refl

section-small : (k : Section) → number_of k ≤ 3
section-small Classes = omega arith
section-small Labels = omega arith
section-small Nodes = omega arith
section-small Edges = omega arith

module _ {line : List ℕ} {x : State} (g : Ready line x) where
  pub header-read : same line (get_or headers (number_of x.section) []) ≡ true →
      LineTaken line x (record { section = x.section; opened = true; classes = x.classes; labels = x.labels; nodes = x.nodes; drawing = x.drawing }) (Some tt) (λ v. read_header v line)
  unfolding view_of allow turn_to
  header-read t =
      let f = g.fine in
      record {
        shown = record {
          answer = header-tested (view_of x) line true t;
          fine = record { classes = f.classes; labels = f.labels; nodes = f.nodes; drawn = f.drawn; node_room = f.node_room; edge_room = f.edge_room };
          count = omega arith;
        };
        kept = was-read;
      }

  pub header-refused : same line (get_or headers (number_of x.section) []) ≡ false → LineTaken line x x None (λ v. read_header v line)
  unfolding view_of allow
  header-refused t = unread g (header-tested (view_of x) line false t)

  pub last-section : number_of x.section ≡ 3 → LineTaken line x x None end_section
  unfolding end_section view_of allow
  last-section t = unread g (rw t)

  pub section-ended : (k : Section) → number_of k ≡ number_of x.section + 1 →
      LineTaken line x (record { section = k; opened = false; classes = x.classes; labels = x.labels; nodes = x.nodes; drawing = x.drawing }) (Some tt) end_section
  unfolding end_section view_of turn_to
  section-ended k e =
      let s = section-small k in
      record {
        shown = record {
          answer = rw (lt-ltb (number_of x.section) 3 (omega arith), e);
          fine = record { classes = g.fine.classes; labels = g.fine.labels; nodes = g.fine.nodes; drawn = g.fine.drawn; node_room = g.fine.node_room; edge_room = g.fine.edge_room };
          count = omega arith;
        };
        kept = was-read;
      }

-- ---- any line

pub read_as : {line : List ℕ} {x y : State} {r : Maybe (Unit {0})} {reads reads' : Reading → Option Reading} → LineRead line x y r reads → reads (view_of x) ≡ reads' (view_of x) → LineRead line x y r reads'
read_as c h = record { answer = c.answer ∙ h; fine = c.fine; count = c.count }

-- from one reading to another: what holds of `LineRead` holds of `LineTaken`
pub taken_by : {line : List ℕ} {x y : State} {r : Maybe (Unit {0})} {reads reads' : Reading → Option Reading} → (LineRead line x y r reads → LineRead line x y r reads') → LineTaken line x y r reads → LineTaken line x y r reads'
taken_by f c = record { shown = f c.shown; kept = c.kept }

-- the line of values of a section
pub by-section : {line : List ℕ} {x y : State} {r : Maybe (Unit {0})} (k : Section) → x.section ≡ k →
    LineRead line x y r (λ v. get_or (read_class ∷ read_label ∷ read_node ∷ read_edge ∷ []) (number_of k) (λ x y. none) v (fields line)) → LineRead line x y r (λ v. read_values v (fields line))
unfolding view_of
by-section {line} {x} k e c = read_as c (values_of (view_of x) (fields line) (number_of k) (ap number_of e))

module _ {line : List ℕ} {x y : State} {r : Maybe (Unit {0})} where
  pub from-header : x.opened ≡ false → LineRead line x y r (λ v. read_header v line) → LineRead line x y r (λ v. read_line v line)
  unfolding view_of
  from-header o c = read_as c (header-first (view_of x) line o)

  pub from-end : x.opened ≡ true → length line ≡ 0 → LineRead line x y r end_section → LineRead line x y r (λ v. read_line v line)
  unfolding view_of
  from-end o h c = read_as c (line-of-end (view_of x) o line h)

  pub from-values : x.opened ≡ true → (length line ≡ 0 → ⊥) → LineRead line x y r (λ v. read_values v (fields line)) → LineRead line x y r (λ v. read_line v line)
  unfolding view_of
  from-values o h c = read_as c (line-of-values (view_of x) o line h)

-- ---- the state before the first line

names-none : (t : Tables) → tables_read t ≡ nothing_read → names_of t.names ≡ []
unfolding tables_read
names-none t h = ap (λ t. t.names) h

pub empty-state : (x : State) → number_of x.section ≡ 0 → x.opened ≡ false → tables_read x.classes ≡ nothing_read → tables_read x.labels ≡ nothing_read → names_of x.nodes ≡ [] → x.drawing ≡ empty_drawing →
    Empty x
unfolding view_of nothing
empty-state x a b c d e f =
    let names : names_of x.classes.names ≡ [] = names-none x.classes c in
    let others : names_of x.labels.names ≡ [] = names-none x.labels d in
    record {
      shows = rw (a, b, c, d, e, f, view-empty);
      fine = record {
        classes = rw names (omega arith);
        labels = rw others (omega arith);
        nodes = rw e (omega arith);
        drawn = rw (e, f) empty-counts.0;
        node_room = rw f empty-roomy.nodes;
        edge_room = rw f empty-roomy.edges;
      };
    }
