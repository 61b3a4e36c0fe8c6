-- Pageable: what the functions are given that write pages. Assumes nothing.
use Rattle.std.specs.Prelude.{ℕ, ◌≤◌, List, length}
use Rattle.limits.specs.Limits.{most_columns, sheet_rows}

-- words that are rows of so many picks, with no more picks than columns and no more words than a sheet query gives
pub record Pageable (rows : List ℕ) (picks : ℕ) : Type 0 where
  pub some : 1 ≤ picks
  pub few : picks ≤ most_columns
  pub words : length rows ≤ sheet_rows
