-- Calls: what the calls of the translation, of the query and for pages leave behind the pointers that they were given.
--
-- In order: a translation; a query; pages. Assumes nothing.
use Rattle.std.specs.Prelude.{ℕ, ◌≡◌, List}
use Rattle.translator.specs.Translation.{Translated}
use Rattle.query_answer.specs.Query.{Queried}
use Rattle.answers.specs.Verdict.{Says}
use Rattle.sheet_pages.specs.SheetPages.{Paged}

-- number and place, every word of the list, and how many instructions it has
pub record Translates (t : Translated) (n p : ℕ) (list₁ : List ℕ) (count : ℕ) : Type 0 where
  pub says : Says t.verdict n p
  pub list : list₁ ≡ t.list
  pub instructions : count ≡ t.instructions

-- number and place, every word of the three slices, and how many words of the last are the rows
pub record Answers (a : Queried) (n p : ℕ) (list₁ work₁ rows₁ : List ℕ) (words : ℕ) : Type 0 where
  pub says : Says a.verdict n p
  pub list : list₁ ≡ a.list
  pub work : work₁ ≡ a.work
  pub rows : rows₁ ≡ a.out
  pub extent : words ≡ a.extent

-- number and place, every byte of the page buffer, and how many of them are the pages
pub record GivesPages (a : Paged) (n p : ℕ) (pages₁ : List ℕ) (bytes : ℕ) : Type 0 where
  pub says : Says a.verdict n p
  pub pages : pages₁ ≡ a.buffer
  pub length' : bytes ≡ a.length'
