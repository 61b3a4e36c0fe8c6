-- `feed::class_table` meets its contract: the classes come first. Assumes nothing.
use native.Mathlib.Omega.{arith}
use Rattle.feed.specs.Feed.{table_count}
use Rattle.feed.proofs.Words.{class-among}
use Rattle.feed.proofs.class_table.Goals as goal

pub table_words-requires : goal.table_words-requires
unfolding table_count
table_words-requires c =
    record { checked = c.requires.checked; there = omega arith }

pub returns : goal.returns
returns c =
    rw (← class-among c.args.feed.now c.args.k c.requires.there) c.table_words.ensures
