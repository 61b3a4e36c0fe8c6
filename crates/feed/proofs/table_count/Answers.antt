-- `feed::table_count` meets its contract. Assumes nothing.
use native.Mathlib.Omega.{arith}
use Rattle.feed.specs.Feed.{class_count, label_count, table_count}
use Rattle.feed.proofs.table_count.Goals as goal

pub returns : goal.returns
unfolding class_count label_count table_count
returns c =
    omega arith
