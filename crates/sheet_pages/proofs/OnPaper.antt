-- OnPaper: pages hold the query's rows.
--
-- In order: names and rows that pages can hold; an accepted call. Assumes nothing.
use Prim.Native.Nat.{ℕ, ◌≤◌}
use native.Mathlib.Omega.{arith}
use mathlib.Core.Bool.{true}
use mathlib.Core.Path.{◌≡◌, refl, sym, ap, ◌∙◌}
use mathlib.Core.List.{List}
use lib.Dec.{leb}
use lib.ListN.{length, take, drop}
use lib.Seq.{take-append_seam}
use Rattle.limits.specs.Limits.{most_columns}
use Rattle.answers.specs.Verdict.{Verdict, accepted, refused, unless, ◌then◌, is_accepted}
use Rattle.answers.proofs.Verdict.{unless-accepted, then-accepted}
use Rattle.tables.specs.Lists.{◌∈◌}
use Rattle.tables.proofs.Tests.{leb-is, true-not-false}
use Rattle.drawing.specs.Drawing.{Pattern, drawing_words, check_drawing}
use Rattle.drawing.specs.Embeddings.{rows}
use Rattle.drawing.proofs.Checks.{drawing-feed}
use Rattle.drawing.proofs.Encoding.{pattern-back}
use Rattle.query_rows.specs.Rows.{row_words}
use Rattle.query_answer.specs.Query.{pick_count, query}
use Rattle.sheet_text.specs.Text.{is_name}
use Rattle.sheet_lines.specs.Reading.{Reading}
use Rattle.sheet_reader.specs.Sheet.{Outcome, read, breach, read_sheet, feed_of}
use Rattle.sheet_writer.specs.Picked.{picked_names}
use Rattle.sheet_writer.proofs.Picked.{picked-among, picked-count}
use Rattle.sheet.specs.SheetQuery.{own_slices}
use Rattle.sheet.proofs.NodeNames.{Few, Sheet, whole, sheet-few}
use Rattle.sheet.proofs.Printing.{drawing-accepted, demand, some-pick}
use Rattle.sheet.proofs.Longest.{rows-of-objects}
use Rattle.sheet_layout.specs.ReadBack.{read_back, Printable}
use Rattle.sheet_layout.proofs.Lengths.{pages-length}
use Rattle.sheet_layout.proofs.ReadBack.{reads-back}
use Rattle.sheet_pages.specs.SheetPages.{paged, check_pages, check_outcome, outcome_pages, sheet_pages}
use Rattle.sheet_pages.specs.Demand.{OnPaper}
use Rattle.sheet_pages.proofs.Giving.{narrow-checked}

-- ---- names and rows that pages can hold

module _ (feed : List ℕ) (p : Pattern) (ok : check_pages feed p ≡ accepted) where
  few-picks : pick_count p ≤ most_columns
  unfolding check_pages
  few-picks =
      let words = drawing_words p in
      let t = ((then-accepted (check_drawing feed words) _).0 ok).1 in
      (leb-is (pick_count p) most_columns).0 ((unless-accepted (leb (pick_count p) most_columns) 15 0).0 ((then-accepted (unless (leb (pick_count p) most_columns) 15 0) _).0 t).0)

  pub query-accepts : (query feed (drawing_words p) own_slices).verdict ≡ accepted
  query-accepts = sym (narrow-checked feed p few-picks) ∙ ok

  printable : (names : List (List ℕ)) → length names ≡ length p.nodes → ((n : List ℕ) → n ∈ names → is_name n ≡ true) → Printable (picked_names names p.nodes) (rows feed p)
  unfolding pick_count
  printable names each letters =
      let row = rows-of-objects feed p (drawing-feed feed (drawing_words p) (drawing-accepted feed p query-accepts)) in
      record {
        few = omega (arith, picked-count names p.nodes each, few-picks);
        letters = λ n m. letters n (picked-among names p.nodes m);
        some = λ r m. omega (arith, (row r m).size, some-pick feed p query-accepts);
        most = λ r m. omega (arith, (row r m).size, few-picks);
        objects = λ r m. (row r m).objects;
      }

pub outcome-printable : {r : Reading} → Few r → check_outcome (read r) ≡ accepted → Printable (picked_names r.names r.drawing.nodes) (rows (feed_of r) r.drawing)
unfolding check_outcome
outcome-printable {r} g ok = printable (feed_of r) r.drawing ok r.names g.each g.letters

-- ---- an accepted call

pub paged-verdict : (v : Verdict) (text buffer : List ℕ) → (paged v text buffer).verdict ≡ v
unfolding paged
paged-verdict accepted text buffer = refl
paged-verdict (refused n p) text buffer = refl

pub paged-back : (text buffer : List ℕ) → take (paged accepted text buffer).length' (paged accepted text buffer).buffer ≡ text
unfolding paged
paged-back text buffer = take-append_seam text (drop (length text) buffer)

pub paged-length : (text buffer : List ℕ) → (paged accepted text buffer).length' ≡ length text
unfolding paged
paged-length text buffer = refl

module _ (sheet buffer : List ℕ) (ok : (sheet_pages sheet buffer).verdict ≡ accepted) where
  module _ {o : Outcome} (e : read_sheet sheet ≡ o) where
    both : check_outcome o then unless (leb (length (outcome_pages o)) (length buffer)) 12 0 ≡ accepted
    unfolding sheet_pages
    both = sym (paged-verdict _ (outcome_pages o) buffer) ∙ rw e at ok

    checked : check_outcome o ≡ accepted
    checked = ((then-accepted (check_outcome o) _).0 both).0

    given_is : sheet_pages sheet buffer ≡ paged accepted (outcome_pages o) buffer
    unfolding sheet_pages
    given_is = rw (e, both)

  module _ {r : Reading} (e : read_sheet sheet ≡ read r) (g : Few r) where
    back : read_back (take (sheet_pages sheet buffer).length' (sheet_pages sheet buffer).buffer) ≡ rows (feed_of r) r.drawing
    unfolding outcome_pages
    back = rw (given_is e, paged-back) (reads-back (outcome-printable g (checked e)))

    accepted-given : OnPaper sheet buffer r
    unfolding check_outcome outcome_pages
    accepted-given =
        let plain_ok = query-accepts (feed_of r) r.drawing (checked e) in
        record {
          reads = e;
          accepts = plain_ok;
          back = back;
          words = (demand (feed_of r) r.drawing plain_ok).given plain_ok ∙ rw (pattern-back r.drawing) (ap row_words (sym back));
          size = rw (given_is e) (paged-length _ buffer ∙ pages-length (outcome-printable g (checked e)));
        }

  pub on-paper : (r : Reading) × OnPaper sheet buffer r
  unfolding check_outcome is_accepted
  on-paper = by (read_sheet sheet) refl (sheet-few sheet)
    where
      by : (o : Outcome) → read_sheet sheet ≡ o → Sheet o → (r : Reading) × OnPaper sheet buffer r
      by (breach at) e s = absurd (true-not-false (ap is_accepted (checked e)) refl)
      by (read r) e (whole g) = (r, accepted-given e g)
