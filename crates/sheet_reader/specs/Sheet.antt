-- Sheet: what a sheet gives, or 14 with its line (document 01, 'The sheet'; document 02, E1, for labels that are two-way).
--
-- In order: all lines; the words of the feed. Assumes nothing.
use Rattle.std.specs.Prelude.{ℕ, ◌+◌, ◌&&◌, cond, List, [], ◌∷◌, map, eqb, leb, length}
use Rattle.std.proofs.Math.Option.{Option, none, some}
use Rattle.limits.specs.Limits.{most_bytes}
use Rattle.tables.specs.Lists.{keep, below, placed}
use Rattle.tables.specs.Order.{Table}
use Rattle.feed.specs.Feed.{Label, feed_words}
use Rattle.sheet_text.specs.Text.{split, is_starred}
use Rattle.sheet_lines.specs.declared.Entry.{Entry}
use Rattle.sheet_lines.specs.Reading.{Named, Reading, nothing, read_line}

-- ---- all lines

-- what a sheet gives: what was read, or the line of its first breach
pub data Outcome : Type 0 where
  read : Reading → Outcome
  breach : ℕ → Outcome

-- "a missing line counts as the one after the last": the four sections must have been opened
unfoldable pub finish : ℕ → Reading → Outcome
finish at r = let whole = eqb r.section 3 && r.opened in cond whole (read r) (breach at)

-- The lines from line number `at` on, the last of which has no line feed behind it and must be empty.
unfoldable pub continue : ℕ → Option Reading → (Reading → Outcome) → Outcome
continue at none rest = breach at
continue at (some r) rest = rest r

unfoldable pub ends_at : ℕ → Reading → List ℕ → Outcome
ends_at at r [] = finish at r
ends_at at r (b ∷ bs) = breach at

unfoldable pub read_lines : ℕ → Reading → List ℕ → List (List ℕ) → Outcome
read_lines at r line [] = ends_at at r line
read_lines at r line (next ∷ lines) = continue at (read_line r line) (λ r'. read_lines (at + 1) r' next lines)

-- "a sheet too long is 14 at 0"
unfoldable pub read_sheet : List ℕ → Outcome
read_sheet sheet =
    let p = split 10 sheet in
    let all = read_lines 1 nothing p.first p.rest in
    cond (leb (length sheet) most_bytes) all (breach 0)

-- ---- the feed

-- "lines keep their order within each"
unfoldable pub lines_of : ℕ → List Entry → Table
lines_of k lines = map (λ x. x.entry) (keep (λ x. eqb x.table k) lines)

-- the lines of each of n tables
unfoldable pub grouped : List Entry → ℕ → List Table
grouped lines n = map (λ k. lines_of k lines) (below n)

unfoldable pub tables_of : Named → List Table
tables_of t = grouped t.lines (length t.names)

-- "A label may now be two-way: ... in the sheet a star follows its name": label k, by its name
unfoldable pub label_of : List Entry → ℕ → List ℕ → Label
label_of lines k name = record { two_way = is_starred name; pairs = lines_of k lines }

unfoldable pub labels_of : Named → List Label
labels_of t = placed (label_of t.lines) 0 t.names

unfoldable pub feed_of : Reading → List ℕ
feed_of r = feed_words (tables_of r.classes) (labels_of r.labels)
