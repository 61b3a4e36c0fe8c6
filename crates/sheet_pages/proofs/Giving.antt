-- Giving: what the call for pages leaves, from the answers of its parts.
--
-- In order: the text in the buffer; a refusal; the checks in their order; what a feed and a drawing answer; a sheet. Assumes nothing.
use Prim.Native.Nat.{ℕ, ◌-◌, ◌<◌, ◌≤◌}
use native.Mathlib.Omega.{arith}
use mathlib.Core.Bool.{Bool, true, false}
use mathlib.Core.Path.{◌≡◌, refl, sym, ap, ◌∙◌}
use mathlib.Core.List.{List, []}
use lib.Dec.{eqb, leb}
use lib.ListN.{length, take, replicate, length-take}
use borrow.Author.Tests.{le-leb, lt-leb}
use Rattle.limits.specs.Limits.{most_columns}
use Rattle.answers.specs.Verdict.{Verdict, accepted, refused, number, unless, ◌then◌, is_accepted}
use Rattle.answers.specs.Answers.{verdict_of, refusal_of}
use Rattle.answers.specs.declared.Refusal.TheVariants.{FeedLength, Ceiling, Ascent, Sides, DrawingLength, Missing, Unpicked, ListLength, UnknownKind, Full, Large, TooMany, Short, Breach, TooWide, Operand, Unused}
use Rattle.answers.proofs.Verdict.{refused-first}
use Rattle.tables.proofs.Tests.{true-not-false}
use Rattle.drawing.specs.Drawing.{Pattern, drawing_words, check_drawing}
use Rattle.drawing.specs.Builder.{view}
use Rattle.drawing.specs.Embeddings.{rows}
use Rattle.algebra.specs.Instructions.{Instruction}
use Rattle.std.specs.Prelude.{Result, Ok, Err}
use Rattle.answers.specs.declared.Refusal.{Refusal}
use Rattle.answers.proofs.Refusing.{refuses}
use Rattle.query_answer.specs.Query.{Lent, pick_count, answer, query}
use Rattle.sheet_text.specs.inner.Parts.{names_of}
use Rattle.sheet_reader.specs.declared.SheetRead.{SheetRead}
use Rattle.sheet_reader.specs.Sheet.{Outcome, read, breach, read_sheet}
use Rattle.sheet_reader.specs.inner.Answers.{verdict_in, Given as Read, Answers}
use Rattle.sheet_writer.specs.Parts.{parts_of}
use Rattle.sheet_writer.specs.Picked.{picked_names}
use Rattle.sheet_writer.specs.inner.Written.{Put, Fits}
use Rattle.sheet_writer.proofs.Clearing.{put_ended}
use Rattle.sheet.specs.SheetQuery.{own_slices}
use Rattle.sheet.specs.inner.Printing.{Asked}
use Rattle.sheet.proofs.Printing.{query-accepted, rows_are}
use Rattle.sheet_layout.specs.Pages.{pages}
use Rattle.sheet_pages.specs.SheetPages.{Paged, paged, check_pages, check_outcome, outcome_pages, sheet_pages}
use Rattle.sheet_pages.specs.Answers.{Gives}
use Rattle.sheet_pages.specs.inner.Ending.{in_buffer, answer_pages, refused_pages}

pub gives_same : {p q : Paged} {after : List ℕ} {r : Result ℕ Refusal} → p ≡ q → Gives p after r → Gives q after r
gives_same e g = rw e at g

-- ---- the text in the buffer

module _ {before mid after text : List ℕ} {at : ℕ} {b : Bool} (p : Put before mid 0 text at) (f : Fits mid after at b) where
  pub fitting : b ≡ true → Gives (in_buffer text before) after (Ok at)
  unfolding paged unless verdict_of
  fitting t =
      let e = put_ended p f in
      rw (sym e.told ∙ t) (record { verdict = refl; length' = e.place t; buffer = e.bytes ∙ rw t })

  pub not-fitting : b ≡ false → Gives (in_buffer text before) after (Err TooMany)
  unfolding paged unless verdict_of
  not-fitting t =
      let e = put_ended p f in
      rw (sym e.told ∙ t) (record { verdict = refl; length' = refl; buffer = e.bytes ∙ rw t })

pub taken-few : {m : ℕ} (n : ℕ) (ws : List ℕ) → length ws ≤ m → length (take n ws) ≤ m
taken-few n ws h = let l = length-take n ws in omega arith

-- ---- a refusal

-- 12, and any other
pub zeroed : (buffer : List ℕ) {after : List ℕ} → after ≡ replicate (length buffer) 0 → Gives (refused_pages (refusal_of TooMany) buffer) after (Err TooMany)
unfolding refused_pages number verdict_of
zeroed buffer z = record { verdict = refl; length' = refl; buffer = z }

other-number : (x : Refusal) → (x ≡ TooMany → ⊥) → eqb (number (refusal_of x)) 12 ≡ false
unfolding number
other-number FeedLength d = refl
other-number (Ceiling p) d = refl
other-number (Ascent p) d = refl
other-number (Sides p) d = refl
other-number DrawingLength d = refl
other-number (Missing p) d = refl
other-number Unpicked d = refl
other-number ListLength d = refl
other-number (UnknownKind p) d = refl
other-number (Full i) d = refl
other-number (Large i) d = refl
other-number TooMany d = absurd (d refl)
other-number (Short m) d = refl
other-number (Breach line) d = refl
other-number TooWide d = refl
other-number (Operand p) d = refl
other-number (Unused p) d = refl

pub kept : (x : Refusal) → (x ≡ TooMany → ⊥) → (buffer : List ℕ) → Gives (refused_pages (refusal_of x) buffer) buffer (Err x)
unfolding refused_pages verdict_of
kept x d buffer = record { verdict = refl; length' = refl; buffer = rw (other-number x d) }

refused-given : (v : Verdict) (text buffer : List ℕ) → is_accepted v ≡ false → refused_pages v buffer ≡ paged v text buffer
unfolding refused_pages paged is_accepted number
refused-given accepted text buffer h = absurd (true-not-false refl h)
refused-given (refused n p) text buffer h = refl

-- ---- the checks in their order

-- the query's own verdict begins with the drawing's check
begins : (u v w : Verdict) (s : Lent) (code : List Instruction) (work : List ℕ) (found : List (List ℕ)) (c : Verdict)
    → u then (answer (u then c) v w s code work found).verdict ≡ (answer (u then c) v w s code work found).verdict
unfolding answer ◌then◌
begins accepted v w s code work found c = refl
begins (refused n p) v w s code work found c = refl

query-begins : (feed drawing : List ℕ) (s : Lent) → check_drawing feed drawing then (query feed drawing s).verdict ≡ (query feed drawing s).verdict
unfolding query
query-begins feed drawing s = begins (check_drawing feed drawing) _ _ s _ _ _ _

module _ (feed : List ℕ) (p : Pattern) where
  -- no more picks than columns
  pub narrow-checked : pick_count p ≤ most_columns → check_pages feed p ≡ (query feed (drawing_words p) own_slices).verdict
  unfolding check_pages unless ◌then◌
  narrow-checked h = rw (le-leb (pick_count p) most_columns h) (query-begins feed (drawing_words p) own_slices)

  -- more picks than columns
  pub wide-checked : most_columns < pick_count p → check_pages feed p ≡ check_drawing feed (drawing_words p) then refused 15 0
  unfolding check_pages unless ◌then◌
  wide-checked h = rw (lt-leb (pick_count p) most_columns h)

-- ---- what a feed and a drawing answer

refusing : (u : Verdict) (n p : ℕ) → is_accepted (u then refused n p) ≡ false
unfolding ◌then◌ is_accepted
refusing accepted n p = refl
refusing (refused m q) n p = refl

module _ (names : List (List ℕ)) (feed : List ℕ) (p : Pattern) (buffer : List ℕ) where
  text : List ℕ
  text = pages (picked_names names p.nodes) (rows feed p)

  -- a verdict that the checks before the buffer's give
  refused-answered : {v : Verdict} → v ≡ check_pages feed p → is_accepted v ≡ false → refused_pages v buffer ≡ answer_pages names feed p buffer
  unfolding answer_pages text
  refused-answered {v} e t =
      refused-given v text buffer t ∙ ap (λ (w : Verdict). paged w text buffer) (sym (refused-first v (unless (leb (length text) (length buffer)) 12 0) t) ∙ rw e)

  pub wide-answered : most_columns < pick_count p → {v : Verdict} → v ≡ check_drawing feed (drawing_words p) then refused 15 0 → refused_pages v buffer ≡ answer_pages names feed p buffer
  wide-answered h e = refused-answered (e ∙ sym (wide-checked feed p h)) (ap is_accepted e ∙ refusing (check_drawing feed (drawing_words p)) 15 0)

  module _ {rows₁ : List ℕ} (few : pick_count p ≤ most_columns) where
    checked : {r : Result ℕ Refusal} → Asked feed p rows₁ r → verdict_of r ≡ check_pages feed p
    checked a = a.verdict ∙ sym (narrow-checked feed p few)

    pub rows-answered : {n picks : ℕ} → Asked feed p rows₁ (Ok n) → picks ≡ pick_count p
        → in_buffer (pages (picked_names names p.nodes) (parts_of picks (take (n - 0) rows₁))) buffer ≡ answer_pages names feed p buffer
    unfolding answer_pages ◌then◌ verdict_of
    rows-answered {n} a e =
        let z : n - 0 ≡ n = omega arith in
        let given : check_pages feed p ≡ accepted = sym (checked a) in
        rw (e, z, a.extent, a.out, rows_are feed p (query-accepted a), given)

    pub refusal-answered : {x : Refusal} → Asked feed p rows₁ (Err x) → refused_pages (refusal_of x) buffer ≡ answer_pages names feed p buffer
    unfolding verdict_of
    refusal-answered {x} a = refused-answered (checked a) (refuses x)

-- ---- a sheet

pub sheet-refused : {s feed : List ℕ} {x : Refusal} → Answers s feed (Err x) → (out : List ℕ) → refused_pages (refusal_of x) out ≡ sheet_pages s out
unfolding sheet_pages check_outcome outcome_pages verdict_in verdict_of is_accepted ◌then◌
sheet-refused {s} {x = x} a out = rw a.verdict (by (read_sheet s) (rw a.verdict at (refuses x)))
  where
    by : (o : Outcome) → is_accepted (verdict_in o) ≡ false → refused_pages (verdict_in o) out ≡ paged (check_outcome o then unless (leb (length (outcome_pages o)) (length out)) 12 0) (outcome_pages o) out
    by (read r) h = absurd (true-not-false refl h)
    by (breach at) h = refused-given (refused 14 at) [] out refl

pub whole-answered : {s feed : List ℕ} {w : SheetRead} → Read s feed w → (out : List ℕ) → answer_pages (names_of w.nodes) (take (w.feed - 0) feed) (view w.drawing) out ≡ sheet_pages s out
unfolding answer_pages sheet_pages check_outcome outcome_pages
whole-answered {w = w} g out = let z : w.feed - 0 ≡ w.feed = omega arith in rw (z, g.feeds, g.draws, g.names, g.outcome)
