-- Printing: what the sheet query's own question leaves. Assumes nothing.
use Rattle.std.specs.Result.{result_unwrap_or}
use Rattle.std.specs.Prelude.{ℕ, ◌≤◌, ◌≡◌, List, length, Result}
use Rattle.answers.specs.Answers.{verdict_of}
use Rattle.answers.specs.declared.Refusal.{Refusal}
use Rattle.drawing.specs.Drawing.{Pattern, drawing_words}
use Rattle.query_answer.specs.Query.{query}
use Rattle.sheet.specs.SheetQuery.{own_slices}

-- the answer of the query with the sheet query's slices, and its row slice
pub record Asked (feed : List ℕ) (p : Pattern) (rows : List ℕ) (r : Result ℕ Refusal) : Type 0 where
  pub verdict : verdict_of r ≡ (query feed (drawing_words p) own_slices).verdict
  pub out : rows ≡ (query feed (drawing_words p) own_slices).out
  pub extent : result_unwrap_or r 0 ≡ (query feed (drawing_words p) own_slices).extent
  pub inside : result_unwrap_or r 0 ≤ length rows
