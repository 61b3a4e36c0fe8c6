-- SheetQuery: what the sheet query prints, and the call (document 01, 'The sheet').
--
-- In order: the listing of a sheet; the call; the bytes that matter. Assumes nothing.
use Rattle.std.specs.Prelude.{ℕ, ◌+◌, ◌*◌, List, replicate}
use Rattle.limits.specs.Limits.{most_nodes, most_list_words, most_bytes, sheet_work, sheet_rows, most_letters, most_digits}
use Rattle.answers.specs.Verdict.{Verdict, accepted, refused}
use Rattle.drawing.specs.Drawing.{Pattern, drawing_words}
use Rattle.drawing.specs.Embeddings.{rows}
use Rattle.query_answer.specs.Query.{query, Lent}
use Rattle.sheet_reader.specs.Sheet.{Outcome, read, breach, read_sheet, feed_of}
use Rattle.sheet_writer.specs.Picked.{picked_names}
use Rattle.sheet_listing.specs.Listing.{listing, refusal, Listed, listed_in}

-- "The sheet query lends itself 16,384 work words, 4,096 row words and room for every instruction"
unfoldable pub own_slices : Lent
own_slices = record { list = replicate most_list_words 0; work = replicate sheet_work 0; out = replicate sheet_rows 0 }

-- the rows of a drawing whose nodes have these names, or the refusal
unfoldable pub answer_text : Verdict → List (List ℕ) → List ℕ → Pattern → List ℕ
answer_text (refused n p) names feed drawing = refusal (refused n p)
answer_text accepted names feed drawing = listing (picked_names names drawing.nodes) (rows feed drawing)

unfoldable pub query_text : List (List ℕ) → List ℕ → Pattern → List ℕ
query_text names feed drawing = answer_text (query feed (drawing_words drawing) own_slices).verdict names feed drawing

-- "Order: a sheet's 14, feed, drawing, ..."
unfoldable pub outcome_text : Outcome → List ℕ
outcome_text (breach at) = refusal (refused 14 at)
outcome_text (read r) = query_text r.names (feed_of r) r.drawing

unfoldable pub sheet_listing : List ℕ → List ℕ
sheet_listing sheet = outcome_text (read_sheet sheet)

unfoldable pub sheet_query : List ℕ → List ℕ → Listed
sheet_query sheet buffer = listed_in (sheet_listing sheet) buffer

-- No listing is longer: 12 names of 12 letters, 4,096 row words of 5 digits, and a space or a line feed behind each.
abbrev pub longest_listing : ℕ
longest_listing = most_nodes * (most_letters + 1) + sheet_rows * (most_digits + 1)

-- What stands behind the first byte too many changes nothing.
abbrev pub deciding_bytes : ℕ
deciding_bytes = most_bytes + 1
