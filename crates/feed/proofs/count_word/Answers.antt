-- `feed::count_word` meets its contract. Assumes nothing.
use Rattle.feed.specs.Feed.{count_word}
use Rattle.feed.proofs.count_word.Goals as goal

pub returns-then-marked : goal.returns-then-marked
unfolding count_word
returns-then-marked c =
    rw c.if-marked.true

pub returns : goal.returns
unfolding count_word
returns c =
    rw c.if-marked.false
