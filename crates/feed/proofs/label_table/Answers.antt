-- `feed::label_table` meets its contract: the labels come after the classes. Assumes nothing.
use native.Mathlib.Omega.{arith}
use Rattle.feed.specs.Feed.{class_count, table_count}
use Rattle.feed.proofs.Feed.{feed-accepted}
use Rattle.feed.proofs.Words.{label-among}
use Rattle.feed.proofs.label_table.Goals as goal

pub word-requires : goal.word-requires
word-requires c =
    let ok = feed-accepted _ c.requires.checked in omega arith

pub overflow_add-word : goal.overflow_add-word
unfolding class_count
overflow_add-word c =
    let ok = feed-accepted _ c.requires.checked in omega arith

pub table_words-requires : goal.table_words-requires
unfolding class_count table_count
table_words-requires c =
    record { checked = c.requires.checked; there = omega arith }

pub returns : goal.returns
unfolding class_count
returns c =
    rw (← label-among c.args.feed.now c.args.k, ← c.word.ensures) c.table_words.ensures
