-- Printed: what the sheet program prints of pages, with a buffer in which all pages fit.
--
-- In order: how long pages can be; the call with such a buffer; the pages, and the line of a refusal; a sheet too long, cut. Assumes nothing.
use Prim.Native.Nat.{ℕ, suc, ◌*◌, ◌≤◌}
use native.Mathlib.Omega.{arith}
use native.Mathlib.Nat.{mul-suc}
use mathlib.Core.Path.{◌≡◌, refl, sym, ap, ◌∙◌}
use mathlib.Core.List.{List}
use lib.Dec.{leb}
use lib.ListN.{length, take, drop}
use lib.Seq.{take-append_seam}
use borrow.Author.Tests.{le-leb}
use Rattle.limits.specs.Limits.{sheet_rows}
use Rattle.answers.specs.Verdict.{Verdict, accepted, refused, unless, ◌then◌, is_accepted}
use Rattle.answers.specs.Answers.{verdict_of, refusal_of}
use Rattle.drawing.specs.Drawing.{Pattern}
use Rattle.drawing.specs.Embeddings.{rows}
use Rattle.std.specs.Prelude.{Result, Ok, Err}
use Rattle.answers.specs.declared.Refusal.{Refusal}
use Rattle.answers.proofs.Refusing.{refuses}
use Rattle.query_answer.specs.Query.{pick_count}
use Rattle.sheet_reader.specs.Sheet.{Outcome, read_sheet, feed_of}
use Rattle.sheet_listing.specs.Listing.{Listed, refusal, listed, listed_in}
use Rattle.sheet.specs.SheetQuery.{deciding_bytes}
use Rattle.sheet.proofs.NodeNames.{Sheet, broken, whole, sheet-few}
use Rattle.sheet.proofs.Printing.{rows_fit, some-pick}
use Rattle.sheet.proofs.Longest.{cut-read, refusal-size}
use Rattle.sheet_layout.specs.Pages.{page_count}
use Rattle.sheet_layout.proofs.Lengths.{pages-length}
use Rattle.sheet_pages.specs.SheetPages.{paged, check_pages, check_outcome, outcome_pages, sheet_pages, printed_pages, longest_pages}
use Rattle.sheet_pages.specs.Answers.{Gives}
use Rattle.sheet_pages.proofs.OnPaper.{query-accepts, outcome-printable, paged-verdict, paged-back, paged-length}

-- ---- how long pages can be

few-rows : (n k : ℕ) → n * k ≤ sheet_rows → 1 ≤ k → n ≤ sheet_rows
few-rows n Prim.Native.Nat.zero h some = elim some [ ]
few-rows n (suc k) h some = omega (arith, mul-suc n k)

row_count : (feed : List ℕ) (p : Pattern) → check_pages feed p ≡ accepted → length (rows feed p) ≤ sheet_rows
row_count feed p ok = let q = query-accepts feed p ok in few-rows (length (rows feed p)) (pick_count p) (rows_fit feed p q) (some-pick feed p q)

longest : {o : Outcome} → Sheet o → check_outcome o ≡ accepted → length (outcome_pages o) ≤ longest_pages
unfolding check_outcome outcome_pages page_count
longest broken ok = omega arith
longest (whole {r = r} g) ok = let n = row_count (feed_of r) r.drawing ok in omega (arith, pages-length (outcome-printable g ok))

-- ---- the call with such a buffer

module _ (sheet before : List ℕ) (room : longest_pages ≤ length before) where
  -- 12 is the query's own
  fits : check_outcome (read_sheet sheet) then unless (leb (length (outcome_pages (read_sheet sheet))) (length before)) 12 0 ≡ check_outcome (read_sheet sheet)
  unfolding ◌then◌ unless
  fits = by (check_outcome (read_sheet sheet)) refl
    where
      by : (v : Verdict) → check_outcome (read_sheet sheet) ≡ v → v then unless (leb (length (outcome_pages (read_sheet sheet))) (length before)) 12 0 ≡ v
      by accepted e = let l = longest (sheet-few sheet) e in rw (le-leb (length (outcome_pages (read_sheet sheet))) (length before) (omega arith))
      by (refused n p) e = refl

  given_is : sheet_pages sheet before ≡ paged (check_outcome (read_sheet sheet)) (outcome_pages (read_sheet sheet)) before
  unfolding sheet_pages
  given_is = rw fits

  module _ {after : List ℕ} where
    verdict-is : {r : Result ℕ Refusal} → Gives (sheet_pages sheet before) after r → verdict_of r ≡ check_outcome (read_sheet sheet)
    verdict-is g = g.verdict ∙ rw given_is (paged-verdict _ _ before)

    -- ---- the pages, and the line of a refusal

    module _ {n : ℕ} (g : Gives (sheet_pages sheet before) after (Ok n)) where
      accepts : check_outcome (read_sheet sheet) ≡ accepted
      unfolding verdict_of
      accepts = sym (verdict-is g)

      whole-given : sheet_pages sheet before ≡ paged accepted (outcome_pages (read_sheet sheet)) before
      whole-given = given_is ∙ rw accepts

      pub pages-inside : n ≤ length before
      pages-inside =
          let m : n ≡ length (outcome_pages (read_sheet sheet)) = g.length' ∙ rw whole-given (paged-length (outcome_pages (read_sheet sheet)) before) in
          let l = longest (sheet-few sheet) accepts in
          omega arith

      pub pages-printed : take n after ≡ printed_pages sheet
      unfolding printed_pages is_accepted
      pages-printed = rw (g.length', g.buffer, whole-given, paged-back, accepts)

    pub refusal-printed : {x : Refusal} → Gives (sheet_pages sheet before) after (Err x) → refusal (refusal_of x) ≡ printed_pages sheet
    unfolding printed_pages verdict_of
    refusal-printed {x} g = let v = verdict-is g in let f = sym (ap is_accepted v) ∙ refuses x in rw (v, f)

-- the line of a refusal in a buffer of that length
pub refusal-listed : (v : Verdict) (before : List ℕ) {after : List ℕ} {r : ℕ} → longest_pages ≤ length before → listed r after ≡ listed_in (refusal v) before → (r ≤ length before) × (take r after ≡ refusal v)
unfolding listed_in
refusal-listed v before {r = r} room e =
    let s = refusal-size v in
    let f = rw (le-leb (length (refusal v)) (length before) (omega arith)) at e in
    let n : r ≡ length (refusal v) = ap (λ (l : Listed). l.length') f in
    (omega arith, ap (λ (l : Listed). take l.length' l.buffer) f ∙ take-append_seam (refusal v) (drop (length (refusal v)) before))

-- ---- a sheet too long, cut

pub cut-printed : (sheet : List ℕ) (n : ℕ) → deciding_bytes ≤ n → printed_pages (take n sheet) ≡ printed_pages sheet
unfolding printed_pages
cut-printed sheet n enough = rw (cut-read sheet n enough)
