-- `feed::class_count` meets its contract. Assumes nothing.
use mathlib.Core.Path.{refl}
use Rattle.feed.specs.Feed.{class_count}
use Rattle.feed.proofs.class_count.Goals as goal

pub returns : goal.returns
unfolding class_count
returns c =
    refl
