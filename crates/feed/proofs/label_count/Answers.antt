-- `feed::label_count` meets its contract. Assumes nothing.
use mathlib.Core.Path.{refl}
use Rattle.feed.specs.Feed.{label_count}
use Rattle.feed.proofs.label_count.Goals as goal

pub returns : goal.returns
unfolding label_count
returns c =
    refl
