-- State: what the reader holds of a sheet, and what it shows of it.
--
-- In order: what a state shows; the state before the first line; what the functions are given; what a line leaves. Assumes nothing.
use Rattle.std.specs.Prelude.{ℕ, ◌+◌, ◌*◌, ◌≤◌, ◌<◌, ◌≡◌, true, false, List, [], length, take, Option as Maybe}
use Rattle.std.specs.Option.{is_some}
use Rattle.std.proofs.Math.Option.{Option}
use Rattle.limits.specs.Limits.{most_classes, most_labels, most_nodes, most_edges, most_bytes}
use Rattle.drawing.specs.Builder.{view}
use Rattle.sheet_text.specs.Text.{find}
use Rattle.sheet_text.specs.declared.names.Names.{Names}
use Rattle.sheet_text.specs.inner.Parts.{names_of}
use Rattle.sheet_lines.specs.declared.section.Section.{Section}
use Rattle.sheet_lines.specs.declared.section.Section.TheVariants.{Classes, Labels, Nodes, Edges}
use Rattle.sheet_lines.specs.declared.entries.Tables.{Tables}
use Rattle.sheet_lines.specs.declared.State.{State}
use Rattle.sheet_lines.specs.Reading.{Named, Reading, nothing, fits_table, numbered, allow}
use Rattle.sheet_lines.specs.inner.Lines.{most_lines}

-- ---- what a state shows

abbrev pub number_of : Section → ℕ
number_of Classes = 0
number_of Labels = 1
number_of Nodes = 2
number_of Edges = 3

unfoldable pub tables_read : Tables → Named
tables_read t = record { names = names_of t.names; lines = take t.lines t.entries }

abbrev pub nothing_read : Named
nothing_read = record { names = []; lines = [] }

unfoldable pub view_of : State → Reading
view_of x = record {
  section = number_of x.section;
  opened = x.opened;
  classes = tables_read x.classes;
  labels = tables_read x.labels;
  names = names_of x.nodes;
  drawing = view x.drawing;
}

-- how many lines of classes and labels were read
abbrev pub line_count : State → ℕ
line_count x = length (tables_read x.classes).lines + length (tables_read x.labels).lines

-- a state that was read from a sheet
pub record Fine (x : State) : Type 0 where
  pub classes : length (names_of x.classes.names) ≤ most_classes
  pub labels : length (names_of x.labels.names) ≤ most_labels
  pub nodes : length (names_of x.nodes) ≤ most_nodes
  pub drawn : x.drawing.n ≡ length (names_of x.nodes)
  pub node_room : length x.drawing.nodes ≡ most_nodes
  pub edge_room : length x.drawing.edges ≡ most_edges

-- the state before the first line
pub record Empty (x : State) : Type 0 where
  pub shows : view_of x ≡ nothing
  pub fine : Fine x

-- ---- what the functions are given

-- a name that is known, or for which there is room
abbrev pub Fitting : List ℕ → Names → Type 0
Fitting name x = fits_table most_labels name (names_of x) ≡ true

-- such a name, and room for a line of its table
pub record Linable (name : List ℕ) (t : Tables) : Type 0 where
  pub fits : Fitting name t.names
  pub room : length (tables_read t).lines < most_lines

-- a line, and a state that was read from the lines before it
pub record Ready (line : List ℕ) (x : State) : Type 0 where
  pub fine : Fine x
  pub short : 4 * line_count x + length line ≤ most_bytes

-- ---- what a line leaves

-- y has the names of x, and this one, whose number is k; its lines are those of x
pub record Numbered (name : List ℕ) (x y : Tables) (k : ℕ) : Type 0 where
  pub names : names_of y.names ≡ numbered name (names_of x.names)
  pub place : k ≡ find name (names_of x.names)
  pub entries : y.entries ≡ x.entries
  pub lines : y.lines ≡ x.lines

-- y shows what the line gives; a line of classes or labels has four bytes, with its line feed
pub record LineRead (line : List ℕ) (x y : State) (r : Maybe (Unit {0})) (reads : Reading → Option Reading) : Type 0 where
  pub answer : allow (is_some r) (view_of y) ≡ reads (view_of x)
  pub fine : Fine y
  pub count : 4 * line_count y ≤ 4 * line_count x + length line + 1

-- y shows what the line gives, and is x where it gives none
pub record LineTaken (line : List ℕ) (x y : State) (r : Maybe (Unit {0})) (reads : Reading → Option Reading) : Type 0 where
  pub shown : LineRead line x y r reads
  pub kept : is_some r ≡ false → y ≡ x
