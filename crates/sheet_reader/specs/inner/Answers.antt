-- Answers: what the reader finds in a sheet, and the words that it writes.
--
-- In order: what the reading of all lines promises; the feed's words, written one behind the other; what the reading of a sheet promises.
-- Assumes nothing.
use Rattle.std.specs.Prelude.{ℕ, ◌+◌, ◌*◌, ◌≤◌, ◌≡◌, List, length, take, Result}
use Rattle.std.specs.Result.{IfOk}
use Rattle.limits.specs.Limits.{most_tables, most_nodes, most_classes, most_labels}
use Rattle.answers.specs.Verdict.{Verdict, accepted, refused}
use Rattle.answers.specs.Answers.{verdict_of}
use Rattle.answers.specs.declared.Refusal.{Refusal}
use Rattle.tables.specs.Slices.{table_words}
use Rattle.drawing.specs.Builder.{view}
use Rattle.sheet_text.specs.inner.Parts.{names_of}
use Rattle.sheet_lines.specs.declared.Entry.{Entry}
use Rattle.sheet_lines.specs.declared.entries.Tables.{Tables}
use Rattle.sheet_lines.specs.declared.State.{State}
use Rattle.sheet_lines.specs.Reading.{Reading}
use Rattle.sheet_lines.specs.inner.Lines.{most_lines}
use Rattle.sheet_lines.specs.inner.State.{tables_read, view_of, line_count, Fine}
use Rattle.sheet_reader.specs.Sheet.{Outcome, read, breach, read_sheet, lines_of, feed_of}
use Rattle.sheet_reader.specs.declared.SheetRead.{SheetRead}

-- "14, with the line counted from 1"
unfoldable pub verdict_in : Outcome → Verdict
verdict_in (read r) = accepted
verdict_in (breach at) = refused 14 at

-- ---- all lines

-- a state that holds what the sheet gives
pub record Whole (s : List ℕ) (x : State) : Type 0 where
  pub shown : read_sheet s ≡ read (view_of x)
  pub fine : Fine x
  pub few : line_count x ≤ most_lines

-- whether the lines are as they should be, and the state that they leave
pub record Scanned (s : List ℕ) (x : State) (r : Result (Unit {0}) Refusal) : Type 0 where
  pub verdict : verdict_of r ≡ verdict_in (read_sheet s)
  pub whole : IfOk r (λ (u : Unit {0}). Whole s x)

-- ---- the feed

-- lines, and room for the pairs of table k of them from place `at` on
pub record TableFits (words : List ℕ) (at : ℕ) (es : List Entry) (k : ℕ) : Type 0 where
  pub room : at + length (table_words (lines_of k es)) ≤ length words

-- tables, and room for xs from place `at` on
pub record Writable (words : List ℕ) (at : ℕ) (t : Tables) (xs : List ℕ) : Type 0 where
  pub few : length (tables_read t).lines ≤ most_lines
  pub room : at + length xs ≤ length words

-- the most words of a feed that comes from a sheet: two, the counts of all tables, and two for each line
abbrev pub feed_room : ℕ
feed_room = 2 + most_tables + 2 * most_lines

-- classes and labels, and room for their feed
pub record Feedable (words : List ℕ) (c l : Tables) : Type 0 where
  pub room : feed_room ≤ length words
  pub classes : length (names_of c.names) ≤ most_classes
  pub labels : length (names_of l.names) ≤ most_labels
  pub few : length (tables_read c).lines + length (tables_read l).lines ≤ most_lines

-- ---- a sheet

-- What the sheet gives: the feed's words stand in front of the slice.
pub record Given (s feed : List ℕ) (w : SheetRead) : Type 0 where
  pub reading : Reading
  pub outcome : read_sheet s ≡ read reading
  pub feeds : take w.feed feed ≡ feed_of reading
  pub fits : w.feed ≤ length feed
  pub draws : view w.drawing ≡ reading.drawing
  pub names : names_of w.nodes ≡ reading.names
  pub few : length (names_of w.nodes) ≤ most_nodes
  pub drawn : length (view w.drawing).nodes ≡ length (names_of w.nodes)

-- What the sheet gives, and that the drawing has as many nodes as there are names.
pub record Counted (s feed : List ℕ) (w : SheetRead) : Type 0 where
  pub shown : Given s feed w
  pub counted : w.drawing.n ≡ length (names_of w.nodes)

-- the answer for a sheet, and what it gives where that accepts
pub record Answers (s feed : List ℕ) (r : Result SheetRead Refusal) : Type 0 where
  pub verdict : verdict_of r ≡ verdict_in (read_sheet s)
  pub given : IfOk r (Counted s feed)
