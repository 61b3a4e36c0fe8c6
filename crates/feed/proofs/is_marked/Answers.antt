-- `feed::is_marked` meets its contract. Assumes nothing.
use mathlib.Core.Path.{refl}
use Rattle.feed.specs.Feed.{is_marked}
use Rattle.feed.proofs.is_marked.Goals as goal

pub returns : goal.returns
unfolding is_marked
returns c =
    refl
