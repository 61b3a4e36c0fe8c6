-- `sheet_reader::put_feed` meets its contract. Assumes nothing.
use native.Mathlib.Omega.{arith}
use Rattle.sheet_reader.proofs.Sizes.{class-counts, label-counts, class-pairs, label-pairs, feed-put}
use Rattle.sheet_reader.proofs.put_feed.Goals as goal

pub put_counts-first-requires : goal.put_counts-first-requires
put_counts-first-requires c =
    let head = rw (c.len.ensures, c.len-2.ensures) at c.put_words-head.ensures in
    record { few = omega (arith, c.requires.few); room = class-counts c.requires head }

pub put_label_counts-second-requires : goal.put_label_counts-second-requires
put_label_counts-second-requires c =
    let head = rw (c.len.ensures, c.len-2.ensures) at c.put_words-head.ensures in
    record { few = omega (arith, c.requires.few); room = label-counts c.requires head c.put_counts-first.ensures }

pub put_tables-third-requires : goal.put_tables-third-requires
put_tables-third-requires c =
    let head = rw (c.len.ensures, c.len-2.ensures) at c.put_words-head.ensures in
    record { few = omega (arith, c.requires.few); room = class-pairs c.requires head c.put_counts-first.ensures c.put_label_counts-second.ensures }

pub put_tables-requires : goal.put_tables-requires
put_tables-requires c =
    let head = rw (c.len.ensures, c.len-2.ensures) at c.put_words-head.ensures in
    record { few = omega (arith, c.requires.few); room = label-pairs c.requires head c.put_counts-first.ensures c.put_label_counts-second.ensures c.put_tables-third.ensures }

pub returns : goal.returns
returns c =
    let head = rw (c.len.ensures, c.len-2.ensures) at c.put_words-head.ensures in
    feed-put c.requires head c.put_counts-first.ensures c.put_label_counts-second.ensures c.put_tables-third.ensures c.put_tables.ensures
