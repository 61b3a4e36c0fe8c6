-- Ending: what the parts of the call for pages are given, and what they leave.
--
-- In order: the text in the buffer; what a feed and a drawing answer; the buffer after a refusal; a drawing that pages can hold. Assumes nothing.
use Rattle.std.specs.Prelude.{ℕ, ◌≤◌, cond, ◌≡◌, List, eqb, leb, length, replicate}
use Rattle.limits.specs.Limits.{most_columns}
use Rattle.answers.specs.Verdict.{Verdict, number, unless, ◌then◌}
use Rattle.drawing.specs.declared.Drawing.{Drawing}
use Rattle.drawing.specs.Builder.{view}
use Rattle.drawing.specs.Drawing.{Pattern}
use Rattle.drawing.specs.Embeddings.{rows}
use Rattle.query_answer.specs.Query.{pick_count}
use Rattle.sheet_text.specs.declared.names.Names.{Names}
use Rattle.sheet_text.specs.inner.Parts.{names_of}
use Rattle.sheet_writer.specs.Picked.{picked_names}
use Rattle.sheet_layout.specs.Pages.{pages}
use Rattle.sheet_pages.specs.SheetPages.{Paged, paged, check_pages}

-- the text in the buffer, where it fits; else 12
abbrev pub in_buffer : List ℕ → List ℕ → Paged
in_buffer text buffer = paged (unless (leb (length text) (length buffer)) 12 0) text buffer

-- what a feed and a drawing answer, whose nodes have these names
unfoldable pub answer_pages : List (List ℕ) → List ℕ → Pattern → List ℕ → Paged
answer_pages names feed drawing buffer =
    let text = pages (picked_names names drawing.nodes) (rows feed drawing) in
    paged (check_pages feed drawing then unless (leb (length text) (length buffer)) 12 0) text buffer

-- whatever was to be written
unfoldable pub refused_pages : Verdict → List ℕ → Paged
refused_pages v buffer = record { verdict = v; length' = 0; buffer = cond (eqb (number v) 12) (replicate (length buffer) 0) buffer }

-- names for the nodes, and no more picks than columns
pub record Narrow (x : Names) (d : Drawing) (picks : ℕ) : Type 0 where
  pub named : length (names_of x) ≡ length (view d).nodes
  pub picked : picks ≡ pick_count (view d)
  pub few : picks ≤ most_columns
