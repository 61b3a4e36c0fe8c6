-- NodeNames: a sheet that can be read gives at most 12 node names, each of them a name of 1 to 12 letters.
--
-- In order: what holds of the names; a line keeps it; all lines; how long a name is. Assumes nothing.
use Prim.Native.Nat.{ℕ, zero, suc, ◌+◌, ◌<◌, ◌≤◌}
use native.Mathlib.Omega.{arith}
use mathlib.Core.Bool.{Bool, true, false, cond, ◌&&◌}
use mathlib.Core.Logic.{⊎_elim}
use mathlib.Core.Path.{◌≡◌, refl, ap, ◌∙◌}
use mathlib.Core.List.Memᴰ
use mathlib.Core.List.{List, [], ◌∷◌}
use mathlib.Core.Option.{Option, none, some}
use lib.Dec.{eqb, leb}
use lib.ListN.{length, get_or, length-append}
use Rattle.limits.specs.Limits.{most_nodes, most_bytes, most_letters}
use Rattle.tables.specs.Lists.{◌∈◌}
use Rattle.tables.proofs.Members.{in-append}
use Rattle.tables.proofs.Tests.{both_true, leb-is, ltb-is}
use Rattle.drawing.specs.declared.Node.{Node}
use Rattle.sheet_text.specs.Text.{split, fields, is_name, within}
use Rattle.sheet_lines.specs.Reading.{Reading, nothing, allow, turn_to, with_classes, with_labels, with_node, with_edge, read_class, read_label, read_node, read_edge, read_values, end_section, read_opened, read_header, by_stage, read_line}
use Rattle.sheet_reader.specs.Sheet.{Outcome, read, breach, finish, continue, ends_at, read_lines, read_sheet}

-- at most 12 names, one for each node
pub record Few (r : Reading) : Type 0 where
  pub each : length r.names ≡ length r.drawing.nodes
  pub few : length r.drawing.nodes ≤ most_nodes
  pub letters : (n : List ℕ) → n ∈ r.names → is_name n ≡ true

few-nothing : Few nothing
unfolding nothing
few-nothing = record { each = refl; few = omega arith; letters = λ n m. absurd (Memᴰ.not-nil m) }

-- ---- a line

-- what a line leaves, unless it is a breach
data Line : Option Reading → Type 0 where
  breaks : Line none
  passes : {r : Reading} → Few r → Line (some r)

allowed : (b : Bool) (r : Reading) → (b ≡ true → Few r) → Line (allow b r)
unfolding allow
allowed true r h = passes (h refl)
allowed false r h = breaks

module _ {r : Reading} (g : Few r) where
  few-node : (n : List ℕ) (v : Node) → is_name n ≡ true → length r.drawing.nodes < most_nodes → Few (with_node n v r)
  unfolding with_node
  few-node n v name l =
      let a = length-append r.names (n ∷ []) in
      let b = length-append r.drawing.nodes (v ∷ []) in
      record {
        each = omega (arith, g.each);
        few = omega arith;
        letters = λ f m. ⊎_elim (g.letters f) (λ k. ap is_name (Memᴰ.eq_of_singleton k) ∙ name) ((in-append r.names (n ∷ [])).0 m);
      }

  class-few : (fs : List (List ℕ)) → Line (read_class r fs)
  unfolding read_class with_classes
  class-few [] = breaks
  class-few (c ∷ []) = breaks
  class-few (c ∷ o ∷ []) = allowed _ _ (λ t. record { each = g.each; few = g.few; letters = g.letters })
  class-few (c ∷ o ∷ x ∷ xs) = breaks

  label-few : (fs : List (List ℕ)) → Line (read_label r fs)
  unfolding read_label with_labels
  label-few [] = breaks
  label-few (l ∷ []) = breaks
  label-few (l ∷ u ∷ []) = breaks
  label-few (l ∷ u ∷ v ∷ []) = allowed _ _ (λ t. record { each = g.each; few = g.few; letters = g.letters })
  label-few (l ∷ u ∷ v ∷ x ∷ xs) = breaks

  node-few : (fs : List (List ℕ)) → Line (read_node r fs)
  unfolding read_node
  node-few [] = breaks
  node-few (n ∷ []) = breaks
  node-few (n ∷ c ∷ []) = breaks
  node-few (n ∷ c ∷ k ∷ []) = breaks
  node-few (n ∷ c ∷ k ∷ f ∷ []) = allowed _ _ (λ t. let a = simp (both_true, ltb-is) at t in few-node n _ a.0.0.0.0.0 a.1)
  node-few (n ∷ c ∷ k ∷ f ∷ x ∷ xs) = breaks

  edge_few : (fs : List (List ℕ)) → Line (read_edge r fs)
  unfolding read_edge with_edge
  edge_few [] = breaks
  edge_few (l ∷ []) = breaks
  edge_few (l ∷ s ∷ []) = breaks
  edge_few (l ∷ s ∷ t ∷ []) = allowed _ _ (λ t. record { each = g.each; few = g.few; letters = g.letters })
  edge_few (l ∷ s ∷ t ∷ x ∷ xs) = breaks

  turn-few : (s : ℕ) (o : Bool) → Few (turn_to s o r)
  unfolding turn_to
  turn-few s o = record { each = g.each; few = g.few; letters = g.letters }

  values-few : (fs : List (List ℕ)) → Line (read_values r fs)
  unfolding read_values
  values-few fs = by r.section
    where
      by : (k : ℕ) → Line (get_or (read_class ∷ read_label ∷ read_node ∷ read_edge ∷ []) k (λ x y. none) r fs)
      by zero = class-few fs
      by (suc zero) = label-few fs
      by (suc (suc zero)) = node-few fs
      by (suc (suc (suc zero))) = edge_few fs
      by (suc (suc (suc (suc k)))) = breaks

  header-few : (s : List ℕ) → Line (read_header r s)
  unfolding read_header
  header-few s = allowed _ _ (λ t. turn-few _ _)

  opened-few : (s : List ℕ) → Line (read_opened r s)
  unfolding read_opened end_section
  opened-few [] = allowed _ _ (λ t. turn-few _ _)
  opened-few (b ∷ bs) = values-few (fields (b ∷ bs))

  line-few : (s : List ℕ) → Line (read_line r s)
  unfolding read_line by_stage
  line-few s = by r.opened
    where
      by : (b : Bool) → Line (by_stage b r s)
      by true = opened-few s
      by false = header-few s

-- ---- all lines

-- what a sheet gives, unless it has a breach
pub data Sheet : Outcome → Type 0 where
  broken : {at : ℕ} → Sheet (breach at)
  whole : {r : Reading} → Few r → Sheet (read r)

continued : {o : Option Reading} {rest : Reading → Outcome} (at : ℕ) → Line o → ((r : Reading) → Few r → Sheet (rest r)) → Sheet (continue at o rest)
unfolding continue
continued at breaks h = broken
continued at (passes g) h = h _ g

ends-few : (at : ℕ) {r : Reading} → Few r → (s : List ℕ) → Sheet (ends_at at r s)
unfolding ends_at finish
ends-few at {r} g [] = by (eqb r.section 3 && r.opened)
  where
    by : (b : Bool) → Sheet (cond b (read r) (breach at))
    by true = whole g
    by false = broken
ends-few at g (b ∷ bs) = broken

lines-few : (at : ℕ) {r : Reading} → Few r → (s : List ℕ) (ss : List (List ℕ)) → Sheet (read_lines at r s ss)
unfolding read_lines
lines-few at g s [] = ends-few at g s
lines-few at g s (next ∷ ss) = continued at (line-few g s) (λ r h. lines-few (at + 1) h next ss)

pub sheet-few : (s : List ℕ) → Sheet (read_sheet s)
unfolding read_sheet
sheet-few s = by (leb (length s) most_bytes)
  where
    by : (b : Bool) → Sheet (cond b (read_lines 1 nothing (split 10 s).first (split 10 s).rest) (breach 0))
    by true = lines-few 1 few-nothing (split 10 s).first (split 10 s).rest
    by false = broken

-- ---- how long a name is

-- every name, or any other field, is shorter than w
unfoldable pub Shorter : ℕ → List (List ℕ) → Type 0
Shorter w fs = (f : List ℕ) → f ∈ fs → length f < w

name-short : (n : List ℕ) → is_name n ≡ true → length n < most_letters + 1
unfolding is_name within
name-short n t =
    let w = ((both_true (leb 1 (length n) && leb (length n) most_letters) _).0 t).0 in
    let l = (leb-is (length n) most_letters).0 ((both_true (leb 1 (length n)) (leb (length n) most_letters)).0 w).1 in
    omega arith

pub few-short : {r : Reading} → Few r → Shorter (most_letters + 1) r.names
unfolding Shorter
few-short g = λ f m. name-short f (g.letters f m)
