-- Printing: what the sheet query prints, from the answers of its parts.
--
-- In order: a query that accepts, its picks and its rows; the question; the listing of an answer, of a refusal; a sheet. Assumes nothing.
use Prim.Native.Nat.{ℕ, ◌*◌, ◌-◌, ◌≤◌}
use native.Mathlib.Omega.{arith}
use mathlib.Core.Bool.{false}
use mathlib.Core.Path.{◌≡◌, refl, sym, ap, ◌∙◌}
use mathlib.Core.List.{List, [], ◌∷◌}
use lib.ListN.{length, take, length-replicate}
use Rattle.limits.specs.Limits.{most_instructions, most_list_words, sheet_rows}
use Rattle.answers.specs.Verdict.{Verdict, accepted, refused, is_accepted}
use Rattle.answers.specs.Answers.{verdict_of, refusal_of}
use Rattle.answers.proofs.Verdict.{then-accepted}
use Rattle.tables.specs.Lists.{◌∈◌}
use Rattle.tables.proofs.Members.{any-true, in-keep}
use Rattle.tables.proofs.Tests.{true-not-false}
use Rattle.feed.proofs.Feed.{class-sides}
use Rattle.drawing.specs.declared.Node.{Node}
use Rattle.drawing.specs.Drawing.{Pattern, drawing_words, is_picked, check_drawing}
use Rattle.drawing.specs.Builder.{view}
use Rattle.drawing.specs.Embeddings.{rows}
use Rattle.drawing.proofs.Encoding.{pattern-back}
use Rattle.drawing.proofs.Checks.{drawing-feed, drawing-checked}
use Rattle.algebra.specs.Instructions.{Instruction}
use Rattle.query_answer.specs.Query.{Lent, pick_count, answer, query}
use Rattle.query_answer.specs.Answers.{slices, Answers as Queried}
use Rattle.query_answer.specs.Demand.{ThirdDemand}
use Rattle.query_answer.proofs.Answers.{extent-inside}
use Rattle.query_answer.proofs.Demand.{third-demand}
use Rattle.sheet_text.specs.inner.Parts.{names_of}
use Rattle.sheet_reader.specs.declared.SheetRead.{SheetRead}
use Rattle.std.specs.Prelude.{Result, Ok, Err}
use Rattle.answers.specs.declared.Refusal.{Refusal}
use Rattle.answers.proofs.Refusing.{refuses}
use Rattle.sheet_reader.specs.Sheet.{Outcome, read, breach, read_sheet}
use Rattle.sheet_reader.specs.inner.Answers.{verdict_in, Given as Read, Answers}
use Rattle.sheet_writer.specs.Parts.{parts_of}
use Rattle.sheet_writer.specs.Picked.{picked_names}
use Rattle.sheet_listing.specs.Listing.{listing, refusal, listed_in}
use Rattle.sheet.specs.SheetQuery.{own_slices, answer_text, query_text, outcome_text, sheet_listing, sheet_query}
use Rattle.sheet.specs.inner.Printing.{Asked}
use Rattle.sheet.proofs.Picks.{rows_back}

-- ---- a query that accepts

begun : (u v w : Verdict) (s : Lent) (code : List Instruction) (work : List ℕ) (found : List (List ℕ)) → (answer u v w s code work found).verdict ≡ accepted → u ≡ accepted
unfolding answer
begun accepted v w s code work found e = refl
begun (refused n p) v w s code work found e = cc

own-list : 3 * most_instructions ≤ length own_slices.list
unfolding own_slices
own-list = omega (arith, length-replicate {A = ℕ} most_list_words 0)

own-rows : length own_slices.out ≡ sheet_rows
unfolding own_slices
own-rows = length-replicate {A = ℕ} sheet_rows 0

module _ (feed : List ℕ) (p : Pattern) (ok : (query feed (drawing_words p) own_slices).verdict ≡ accepted) where
  pub drawing-accepted : check_drawing feed (drawing_words p) ≡ accepted
  unfolding query
  drawing-accepted = ((then-accepted (check_drawing feed (drawing_words p)) _).0 (begun _ _ _ own_slices _ _ _ ok)).0

  pub demand : ThirdDemand feed (drawing_words p) own_slices
  demand = third-demand feed (drawing_words p) own_slices drawing-accepted own-list

  pub rows_fit : length (rows feed p) * pick_count p ≤ sheet_rows
  rows_fit = let h = rw (pattern-back p) at (demand.accepts.0 ok).1 in omega (arith, own-rows)

  pub some-pick : 1 ≤ pick_count p
  unfolding pick_count
  some-pick =
      let any = rw (pattern-back p) at (drawing-checked feed (drawing_words p) drawing-accepted).some_pick in
      let v = (any-true is_picked p.nodes).0 any in
      some ((in-keep is_picked p.nodes).1 (v.1, v.2))
    where
      some : {x : Node} {xs : List Node} → x ∈ xs → 1 ≤ length xs
      some {xs = []} m = elim m [ ]
      some {xs = y ∷ ys} m = omega arith

  pub rows_are : parts_of (pick_count p) (take (query feed (drawing_words p) own_slices).extent (query feed (drawing_words p) own_slices).out) ≡ rows feed p
  rows_are =
      ap (parts_of (pick_count p)) (demand.given ok) ∙ rw (pattern-back p) (rows_back feed p (λ k u v m. class-sides feed (drawing-feed feed (drawing_words p) drawing-accepted) k m) some-pick)

-- ---- the question, with the sheet query's slices

pub own-slices : {rows₀ : List ℕ} → rows₀ ≡ own_slices.out → slices own_slices.list own_slices.work rows₀ ≡ own_slices
own-slices e = rw e

pub asked : {feed list₁ work₁ rows₁ : List ℕ} {before : Lent} {p : Pattern} {r : Result ℕ Refusal} → before ≡ own_slices → Queried feed (drawing_words p) before (slices list₁ work₁ rows₁) r → Asked feed p rows₁ r
asked {r = r} own a =
    let b = rw own at a in
    record { verdict = b.verdict; out = b.out; extent = b.extent; inside = extent-inside b refl }

-- ---- the listing of an answer, of a refusal

refused-text : (v : Verdict) (names : List (List ℕ)) (feed : List ℕ) (p : Pattern) → is_accepted v ≡ false → refusal v ≡ answer_text v names feed p
unfolding answer_text is_accepted
refused-text accepted names feed p h = absurd (true-not-false refl h)
refused-text (refused n l) names feed p h = refl

module _ {feed rows₁ : List ℕ} {p : Pattern} where
  pub query-accepted : {n : ℕ} → Asked feed p rows₁ (Ok n) → (query feed (drawing_words p) own_slices).verdict ≡ accepted
  unfolding verdict_of
  query-accepted a = sym a.verdict

  module _ (names : List (List ℕ)) (out : List ℕ) where
    pub rows-listed : {n picks : ℕ} → Asked feed p rows₁ (Ok n) → picks ≡ pick_count p
        → listed_in (listing (picked_names names p.nodes) (parts_of picks (take (n - 0) rows₁))) out ≡ listed_in (query_text names feed p) out
    unfolding query_text answer_text
    rows-listed {n} a e =
        let z : n - 0 ≡ n = omega arith in
        let ok = query-accepted a in
        rw (e, ok, z, a.extent, a.out, rows_are feed p ok)

    pub refusal-listed : {x : Refusal} → Asked feed p rows₁ (Err x) → listed_in (refusal (refusal_of x)) out ≡ listed_in (query_text names feed p) out
    unfolding query_text verdict_of
    refusal-listed {x} a = rw (← a.verdict, refused-text (refusal_of x) names feed p (refuses x))

-- ---- a sheet

pub sheet-refused : {s feed : List ℕ} {x : Refusal} → Answers s feed (Err x) → (out : List ℕ) → listed_in (refusal (refusal_of x)) out ≡ sheet_query s out
unfolding sheet_query sheet_listing outcome_text verdict_in verdict_of is_accepted
sheet-refused {s} {x = x} a out = rw a.verdict (by (read_sheet s) (rw a.verdict at (refuses x)))
  where
    by : (o : Outcome) → is_accepted (verdict_in o) ≡ false → listed_in (refusal (verdict_in o)) out ≡ listed_in (outcome_text o) out
    by (read r) h = absurd (true-not-false refl h)
    by (breach at) h = refl

pub whole-listed : {s feed : List ℕ} {w : SheetRead} → Read s feed w → (out : List ℕ) → listed_in (query_text (names_of w.nodes) (take (w.feed - 0) feed) (view w.drawing)) out ≡ sheet_query s out
unfolding sheet_query sheet_listing outcome_text
whole-listed {w = w} g out = let z : w.feed - 0 ≡ w.feed = omega arith in rw (z, g.feeds, g.draws, g.names, g.outcome)
