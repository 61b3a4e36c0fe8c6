-- `feed::size_of` meets its contract. Assumes nothing.
use native.Mathlib.Omega.{arith}
use borrow.Author.Tests.{lt-leb, le-leb}
use Rattle.limits.specs.Limits.{two_way_mark}
use Rattle.feed.specs.Feed.{is_marked, size_of}
use Rattle.feed.proofs.size_of.Goals as goal

pub returns-then-word-lt-TWO_WAY : goal.returns-then-word-lt-TWO_WAY
unfolding size_of is_marked
returns-then-word-lt-TWO_WAY c =
    rw (lt-leb two_way_mark c.args.word c.if-word-lt-TWO_WAY.true)

pub returns : goal.returns
unfolding size_of is_marked
returns c =
    rw (le-leb two_way_mark c.args.word (omega arith))
