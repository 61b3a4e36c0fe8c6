-- `sheet_reader::label_word` meets its contract. Assumes nothing.
use native.Mathlib.Omega.{arith}
use Rattle.feed.specs.Feed.{label_word}
use Rattle.sheet_reader.specs.Sheet.{label_of}
use Rattle.sheet_reader.proofs.Grouping.{lines-few}
use Rattle.sheet_reader.proofs.label_word.Goals as goal

pub count_word-requires : goal.count_word-requires
count_word-requires c =
    omega (arith, c.count_lines.ensures, lines-few c.args.k c.args.entries.now, c.requires)

pub returns : goal.returns
unfolding label_word label_of
returns c =
    rw (← c.count_lines.ensures, ← c.is_starred.ensures) c.count_word.ensures
