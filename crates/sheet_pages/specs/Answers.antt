-- Answers: what the call for pages leaves, as equations with the definition `sheet_pages`. Assumes nothing.
use Rattle.std.specs.Result.{result_unwrap_or}
use Rattle.std.specs.Prelude.{ℕ, ◌≡◌, List, Result}
use Rattle.answers.specs.Answers.{verdict_of}
use Rattle.answers.specs.declared.Refusal.{Refusal}
use Rattle.sheet_pages.specs.SheetPages.{Paged}

-- number and place, the length, and every byte of the page buffer
pub record Gives (p : Paged) (after : List ℕ) (r : Result ℕ Refusal) : Type 0 where
  pub verdict : verdict_of r ≡ p.verdict
  pub length' : result_unwrap_or r 0 ≡ p.length'
  pub buffer : after ≡ p.buffer
