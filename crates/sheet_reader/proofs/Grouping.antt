-- Grouping: the lines of a table among the lines of all, from a line on, the tables from a number on, and the labels.
--
-- In order: the lines of a table; the tables from one on; the labels from one on. Assumes nothing.
use mathlib.Core.Path.{◌≡◌, refl, ◌∙◌, sym, ap}
use mathlib.Core.Bool.{Bool, cond}
use mathlib.Core.List.{List, [], ◌∷◌, map}
use Prim.Native.Nat.{ℕ, suc, ◌+◌, ◌-◌, ◌<◌, ◌≤◌}
use native.Mathlib.Omega.{arith}
use native.Mathlib.Numerals.{add-one}
use borrow.Author.Tests.{eq-eqb, ne_eqb}
use lib.Dec.{eqb}
use lib.ListN.{length, get_or, drop, drop_of_length-le, length-map, length-drop}
use Rattle.std.specs.List.{filter}
use Rattle.tables.proofs.Members.{length-keep, length-placed}
use lib.Seq.{drop-cons}
use Rattle.tables.specs.Lists.{keep, count, below, placed}
use Rattle.tables.specs.Order.{Table}
use denote.Ref.{Bor}
use Rattle.sheet_text.specs.inner.Parts.{texts}
use Rattle.sheet_text.proofs.Finding.{text-at}
use Rattle.sheet_lines.specs.declared.Entry.{Entry}
use Rattle.sheet_reader.specs.Sheet.{lines_of, grouped, label_of}

-- ---- the lines of a table

module _ (k : ℕ) (x : Entry) (xs : List Entry) where
  pub line-in : x.table ≡ k → lines_of k (x ∷ xs) ≡ x.entry ∷ lines_of k xs
  unfolding lines_of keep
  line-in e = rw (eq-eqb x.table k e)

  pub line-out : (x.table ≡ k → ⊥) → lines_of k (x ∷ xs) ≡ lines_of k xs
  unfolding lines_of keep
  line-out d = rw (ne_eqb x.table k d)

filter-keep : (p : Entry → Bool) (es : List Entry) → filter p es ≡ keep p es
unfolding keep
filter-keep p [] = refl
filter-keep p (x ∷ es) = ap (λ r. cond (p x) (x ∷ r) r) (filter-keep p es)

pub filtered : (k : ℕ) (es : List Entry) → length (filter (λ x. eqb x.table k) es) ≡ length (lines_of k es)
unfolding lines_of
filtered k es = ap length (filter-keep (λ x. eqb x.table k) es) ∙ sym (length-map (keep (λ x. eqb x.table k) es) (λ x. x.entry))

pub lines-few : (k : ℕ) (es : List Entry) → length (lines_of k es) ≤ length es
unfolding lines_of
lines-few k es = let l = length-keep (λ x. eqb x.table k) es in let m = length-map (keep (λ x. eqb x.table k) es) (λ x. x.entry) in omega arith

pub left-next : {A : Type 0} (xs : List A) (i : ℕ) (d : A) → i < length xs → drop i xs ≡ get_or xs i d ∷ drop (i + 1) xs
left-next xs i d h = rw (add-one i) (drop-cons xs i d h)

pub left-none : {A : Type 0} (xs : List A) (i : ℕ) → length xs ≤ i → drop i xs ≡ []
left-none xs i h = drop_of_length-le xs {i = i} h

-- the lines from number i on
abbrev no_entry : Entry
no_entry = record { table = 0; entry = record { left = 0; right = 0 } }

module _ (k : ℕ) (es : List Entry) (i : ℕ) where
  pub lines-in : i < length es → (get_or es i no_entry).table ≡ k → lines_of k (drop i es) ≡ (get_or es i no_entry).entry ∷ lines_of k (drop (i + 1) es)
  lines-in h e = rw (left-next es i no_entry h) (line-in k _ _ e)

  pub lines-out : i < length es → ((get_or es i no_entry).table ≡ k → ⊥) → lines_of k (drop i es) ≡ lines_of k (drop (i + 1) es)
  lines-out h d = rw (left-next es i no_entry h) (line-out k _ _ d)

  pub lines-done : length es ≤ i → lines_of k (drop i es) ≡ []
  unfolding lines_of keep
  lines-done h = rw (left-none es i h)

-- ---- the tables from one on

pub tables_from : List Entry → ℕ → ℕ → List Table
tables_from es n k = map (λ j. lines_of j es) (count k (n - k))

module _ (es : List Entry) (n : ℕ) where
  pub tables-all : tables_from es n 0 ≡ grouped es n
  unfolding tables_from grouped below
  tables-all = let z : n - 0 ≡ n = omega arith in rw z

  pub tables_more : (k : ℕ) → k < n → tables_from es n k ≡ lines_of k es ∷ tables_from es n (k + 1)
  unfolding tables_from count
  tables_more k h = let z : n - k ≡ suc (n - (k + 1)) = omega arith in rw z

  pub tables-done : (k : ℕ) → n ≤ k → tables_from es n k ≡ []
  unfolding tables_from count
  tables-done k h = let z : n - k ≡ 0 = omega arith in rw z

-- ---- the labels from one on

module _ (es : List Entry) (xs : List (Bor (List ℕ))) (k : ℕ) where
  pub labels-more : (d : Bor (List ℕ)) → k < length xs →
      placed (label_of es) k (drop k (texts xs)) ≡ label_of es k (get_or xs k d).now ∷ placed (label_of es) (k + 1) (drop (k + 1) (texts xs))
  unfolding placed
  labels-more d h =
      let l = length-map xs (λ x. x.now) in
      rw (left-next (texts xs) k d.now (omega arith), text-at xs k d)

  pub labels-done : length xs ≤ k → placed (label_of es) k (drop k (texts xs)) ≡ []
  unfolding placed
  labels-done h =
      let l = length-map xs (λ x. x.now) in
      rw (left-none (texts xs) k (omega arith))

  pub labels-some : k < length xs → 1 ≤ length (placed (label_of es) k (drop k (texts xs)))
  labels-some h = omega (arith, length-placed (label_of es) k (drop k (texts xs)), length-drop k (texts xs), length-map xs (λ x. x.now))
