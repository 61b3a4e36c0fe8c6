-- Limits: every ceiling of document 01, the mark of a two-way label, the word for any object and the measures of a page, once for the definitions.
--
-- In order: of a feed; of a drawing; of an instruction list and its registers; of a sheet; of a page; all of them. Assumes nothing.
use Rattle.std.specs.Prelude.{ℕ}
use Rattle.limits.specs.declared.Limits.{Limits}

-- "C (0 to 32)", "L (0 to 64)", "C + L pair counts (each at most 4,096)", "An object is 0 to 65,535"
abbrev pub most_classes : ℕ
most_classes = 32

abbrev pub most_labels : ℕ
most_labels = 64

abbrev pub most_tables : ℕ
most_tables = 96

abbrev pub most_table_pairs : ℕ
most_table_pairs = 4096

abbrev pub largest_object : ℕ
largest_object = 65535

-- "its count word is raised by 32,768" (document 02, E1)
abbrev pub two_way_mark : ℕ
two_way_mark = 32768

-- "with 1 to 12 nodes and 0 to 24 edges"; "the three ceilings (nodes, edges, picks 12)"
abbrev pub most_nodes : ℕ
most_nodes = 12

abbrev pub most_edges : ℕ
most_edges = 24

abbrev pub most_picks : ℕ
most_picks = 12

-- "65,536 for any object, or the one object it must be" (document 02, E4)
abbrev pub any_object : ℕ
any_object = 65536

-- "8: none, over 1,024"; three words an instruction, and one end more than there are registers
abbrev pub most_instructions : ℕ
most_instructions = 1024

abbrev pub most_list_words : ℕ
most_list_words = 3072

abbrev pub most_ends : ℕ
most_ends = 1025

-- "11: a register over 65,536 pairs"; "The tag of the pair at place p in register r is 65,536 × (r + 1) + p"
abbrev pub most_pairs : ℕ
most_pairs = 65536

abbrev pub tag_step : ℕ
tag_step = 65536

-- "Up to 16,384 bytes"; "The sheet query lends itself 16,384 work words, 4,096 row words"
abbrev pub most_bytes : ℕ
most_bytes = 16384

abbrev pub sheet_work : ℕ
sheet_work = 16384

abbrev pub sheet_rows : ℕ
sheet_rows = 4096

-- "Names are 1 to 12 lower-case letters. Numbers are 1 to 5 digits"
abbrev pub most_letters : ℕ
most_letters = 12

abbrev pub most_digits : ℕ
most_digits = 5

-- "Lines are exactly 65 characters and a line feed: up to five columns of 13"; "A page has the names, 50 rows" (document 02, E2)
abbrev pub most_columns : ℕ
most_columns = 5

abbrev pub column_width : ℕ
column_width = 13

abbrev pub line_width : ℕ
line_width = 65

abbrev pub page_rows : ℕ
page_rows = 50

-- as the code has them
unfoldable pub all_limits : Limits
all_limits = record {
  classes = most_classes;
  labels = most_labels;
  tables = most_tables;
  entries = most_table_pairs;
  object = largest_object;
  mark = two_way_mark;
  nodes = most_nodes;
  edges = most_edges;
  picks = most_picks;
  any = any_object;
  instructions = most_instructions;
  words = most_list_words;
  ends = most_ends;
  pairs = most_pairs;
  tags = tag_step;
  bytes = most_bytes;
  work = sheet_work;
  rows = sheet_rows;
  letters = most_letters;
  digits = most_digits;
  columns = most_columns;
  column = column_width;
  line = line_width;
  page = page_rows;
}
