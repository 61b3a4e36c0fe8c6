-- Picked: the names of the picked nodes, node by node.
--
-- In order: which names they are, and how many; the names picked so far, and those that are left. Assumes nothing.
use Prim.Native.Nat.{ℕ, suc, ◌+◌, ◌<◌, ◌≤◌}
use native.Mathlib.Omega.{arith}
use mathlib.Core.Path.{◌≡◌, refl, sym, ap, ◌∙◌}
use mathlib.Core.Bool.{Bool, true, false, cond}
use mathlib.Core.List.Memᴰ
use mathlib.Core.List.Memᴰ.{head as here}
use mathlib.Core.List.Memᴰ.{tail as there}
use mathlib.Core.List.{List, [], ◌∷◌, ◌++◌, append_assoc, append-nil}
use lib.ListN.{length, get_or, drop, length-append, drop_of_length-le}
use borrow.Author.Tests.{ne_eqb}
use Rattle.tables.specs.Lists.{◌∈◌, keep}
use Rattle.drawing.specs.declared.Node.{Node}
use Rattle.drawing.specs.Drawing.{no_node, is_picked}
use Rattle.drawing.proofs.Encoding.{left-next}
use Rattle.sheet_writer.specs.Picked.{picked_names}

-- ---- which names they are, and how many

pub picked-among : (ns : List (List ℕ)) (vs : List Node) {f : List ℕ} → f ∈ picked_names ns vs → f ∈ ns
unfolding picked_names
picked-among [] vs m = m
picked-among (n ∷ ns) [] m = absurd (Memᴰ.not-nil m)
picked-among (n ∷ ns) (v ∷ vs) {f} m = by (is_picked v) (picked-among ns vs) m
  where
    one : (f ∈ picked_names ns vs → f ∈ ns) → f ∈ (n ∷ picked_names ns vs) → f ∈ (n ∷ ns)
    one rest (here e) = here e
    one rest (there k) = there (rest k)

    by : (b : Bool) → (f ∈ picked_names ns vs → f ∈ ns) → f ∈ cond b (n ∷ picked_names ns vs) (picked_names ns vs) → f ∈ (n ∷ ns)
    by true rest k = one rest k
    by false rest k = there (rest k)

pub picked-count : (ns : List (List ℕ)) (vs : List Node) → length ns ≡ length vs → length (picked_names ns vs) ≡ length (keep is_picked vs)
unfolding picked_names keep
picked-count [] [] e = refl
picked-count [] (v ∷ vs) e = absurd (omega arith)
picked-count (n ∷ ns) [] e = absurd (omega arith)
picked-count (n ∷ ns) (v ∷ vs) e = by (is_picked v) (picked-count ns vs (omega arith))
  where
    by : (b : Bool) → length (picked_names ns vs) ≡ length (keep is_picked vs)
        → length (cond b (n ∷ picked_names ns vs) (picked_names ns vs)) ≡ length (cond b (v ∷ keep is_picked vs) (keep is_picked vs))
    by true h = ap suc h
    by false h = h

-- ---- the names picked so far, and those that are left

pub record Picking (ns : List (List ℕ)) (vs : List Node) (i : ℕ) (done : List (List ℕ)) : Type 0 where
  pub few : length done ≤ i
  pub whole : done ++ picked_names (drop i ns) (drop i vs) ≡ picked_names ns vs

pub picking-start : (ns : List (List ℕ)) (vs : List Node) → Picking ns vs 0 []
picking-start ns vs = record { few = omega arith; whole = refl }

module _ {ns : List (List ℕ)} {vs : List Node} {i : ℕ} {done : List (List ℕ)} (g : Picking ns vs i done) (e : length ns ≡ length vs) where
  module _ (h : i < length vs) where
    next : picked_names (drop i ns) (drop i vs) ≡ cond (is_picked (get_or vs i no_node)) (get_or ns i [] ∷ picked_names (drop (i + 1) ns) (drop (i + 1) vs)) (picked_names (drop (i + 1) ns) (drop (i + 1) vs))
    unfolding picked_names
    next = rw (left-next ns i [] (omega arith), left-next vs i no_node h)

    pub picking-takes : (get_or vs i no_node).pick ≡ 1 → (n : List ℕ) → get_or ns i [] ≡ n → Picking ns vs (i + 1) (done ++ (n ∷ []))
    unfolding is_picked
    picking-takes p n z =
        let l = length-append done (n ∷ []) in
        record { few = omega (arith, g.few); whole = rw append_assoc (ap (λ r. done ++ r) (sym (next ∙ rw (p, z))) ∙ g.whole) }

    pub picking-skips : ((get_or vs i no_node).pick ≡ 1 → ⊥) → Picking ns vs (i + 1) done
    unfolding is_picked
    picking-skips p = record { few = omega (arith, g.few); whole = ap (λ r. done ++ r) (sym (next ∙ rw (ne_eqb (get_or vs i no_node).pick 1 p))) ∙ g.whole }

  pub picking-end : length vs ≤ i → done ≡ picked_names ns vs
  unfolding picked_names
  picking-end h = sym (append-nil done) ∙ rw (drop_of_length-le ns {i = i} (omega arith)) at g.whole
