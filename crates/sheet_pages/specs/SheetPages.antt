-- SheetPages: the call that gives a sheet's rows as pages, with every byte of the page buffer (document 02, E2).
--
-- In order: what the call gives; the buffer by its verdict; the checks in their order; the call; what is printed, and how long it can be.
-- Assumes nothing.
use Rattle.std.specs.Prelude.{ℕ, ◌+◌, ◌*◌, ◌-◌, ◌/◌, cond, List, [], ◌++◌, eqb, leb, length, drop, replicate}
use Rattle.limits.specs.Limits.{most_columns, line_width, page_rows, sheet_rows}
use Rattle.answers.specs.Verdict.{Verdict, accepted, refused, unless, ◌then◌, is_accepted}
use Rattle.drawing.specs.Drawing.{Pattern, drawing_words, check_drawing}
use Rattle.drawing.specs.Embeddings.{rows}
use Rattle.query_answer.specs.Query.{pick_count, query}
use Rattle.sheet_reader.specs.Sheet.{Outcome, read, breach, read_sheet, feed_of}
use Rattle.sheet_writer.specs.Picked.{picked_names}
use Rattle.sheet_listing.specs.Listing.{refusal}
use Rattle.sheet.specs.SheetQuery.{own_slices}
use Rattle.sheet_layout.specs.Pages.{pages}

-- number and place, "the pages' length in bytes, 0 when refused", and the page buffer afterwards
pub record Paged : Type 0 where
  pub verdict : Verdict
  pub length' : ℕ
  pub buffer : List ℕ

-- "any 12 zeroes it; past the pages, and on other refusals, it is untouched"
unfoldable pub paged : Verdict → List ℕ → List ℕ → Paged
paged accepted text buffer = record { verdict = accepted; length' = length text; buffer = text ++ drop (length text) buffer }
paged (refused n p) text buffer = record { verdict = refused n p; length' = 0; buffer = cond (eqb n 12) (replicate (length buffer) 0) buffer }

-- feed, drawing, then "15, place 0, when more than five nodes are picked, just after 7", then 10, 11 or 12 of the query with the slices of the
-- sheet query
unfoldable pub check_pages : List ℕ → Pattern → Verdict
check_pages feed drawing =
    let words = drawing_words drawing in
    check_drawing feed words then unless (leb (pick_count drawing) most_columns) 15 0 then (query feed words own_slices).verdict

-- a sheet's 14 before all
unfoldable pub check_outcome : Outcome → Verdict
check_outcome (breach at) = refused 14 at
check_outcome (read r) = check_pages (feed_of r) r.drawing

unfoldable pub outcome_pages : Outcome → List ℕ
outcome_pages (breach at) = []
outcome_pages (read r) = pages (picked_names r.names r.drawing.nodes) (rows (feed_of r) r.drawing)

-- "A page buffer too short is 12", after all else
unfoldable pub sheet_pages : List ℕ → List ℕ → Paged
sheet_pages sheet buffer =
    let o = read_sheet sheet in
    let text = outcome_pages o in
    paged (check_outcome o then unless (leb (length text) (length buffer)) 12 0) text buffer

-- What the sheet program prints: the pages, or the line of the refusal "as ever".
unfoldable pub printed_pages : List ℕ → List ℕ
printed_pages sheet =
    let o = read_sheet sheet in
    cond (is_accepted (check_outcome o)) (outcome_pages o) (refusal (check_outcome o))

-- No pages are longer: a sheet query gives 4,096 row words.
abbrev pub longest_pages : ℕ
longest_pages = (line_width + 1) * (2 * (1 + (sheet_rows - 1) / page_rows) + sheet_rows)
