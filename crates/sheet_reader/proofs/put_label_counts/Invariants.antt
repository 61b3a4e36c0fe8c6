-- `sheet_reader::put_label_counts` meets its contract. The loop's invariant: the count words of the labels passed are written. Assumes nothing.
use mathlib.Core.List.{map}
use lib.ListN.{drop}
use Rattle.tables.specs.Lists.{placed}
use Rattle.tables.proofs.Putting.{Putting}
use Rattle.feed.specs.Feed.{label_word}
use Rattle.sheet_text.specs.inner.Parts.{names_of}
use Rattle.sheet_lines.specs.inner.State.{tables_read}
use Rattle.sheet_reader.specs.Sheet.{label_of, labels_of}
use Rattle.sheet_reader.proofs.put_label_counts.Given as goal

abbrev pub invariant-loop-k : goal.invariant-loop-k
invariant-loop-k l = Putting l.initial.words l.words l.at l.out (map label_word (labels_of (tables_read l.t)))
    (map label_word (placed (label_of (tables_read l.t).lines) l.k (drop l.k (names_of (l.t).names))))
