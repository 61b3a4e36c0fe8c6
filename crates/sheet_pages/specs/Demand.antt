-- Demand: what pages promise (document 02, E2), of every sheet and every buffer that the call accepts. `on-paper` (proofs/OnPaper) is the theorem.
--
-- In order: what the sheet gives, the query and the pages; the promise. Assumes nothing.
use Rattle.std.specs.Prelude.{ℕ, ◌+◌, ◌*◌, ◌≡◌, List, length, take}
use Rattle.limits.specs.Limits.{line_width}
use Rattle.answers.specs.Verdict.{accepted}
use Rattle.drawing.specs.Drawing.{drawing_words}
use Rattle.drawing.specs.Embeddings.{rows}
use Rattle.query_rows.specs.Rows.{row_words}
use Rattle.query_answer.specs.Query.{Queried, query}
use Rattle.sheet_lines.specs.Reading.{Reading}
use Rattle.sheet_reader.specs.Sheet.{read, read_sheet, feed_of}
use Rattle.sheet.specs.SheetQuery.{own_slices}
use Rattle.sheet_layout.specs.Pages.{page_count}
use Rattle.sheet_layout.specs.ReadBack.{read_back}
use Rattle.sheet_pages.specs.SheetPages.{Paged, sheet_pages}

module _ (sheet buffer : List ℕ) (r : Reading) where
  -- the rows of the embeddings
  abbrev pub found : List (List ℕ)
  found = rows (feed_of r) r.drawing

  -- the plain query, with the slices of the sheet query
  abbrev pub plain : Queried
  plain = query (feed_of r) (drawing_words r.drawing) own_slices

  abbrev pub given : Paged
  given = sheet_pages sheet buffer

  pub record OnPaper : Type 0 where
    pub reads : read_sheet sheet ≡ read r
    pub accepts : plain.verdict ≡ accepted
    -- "Read back by columns, the row lines are the query's rows in order and nothing more"
    pub back : read_back (take given.length' given.buffer) ≡ found
    pub words : take plain.extent plain.out ≡ row_words (read_back (take given.length' given.buffer))
    -- 66 bytes a line: two lines a page beside the rows
    pub size : given.length' ≡ (line_width + 1) * (2 * page_count (length found) + length found)
