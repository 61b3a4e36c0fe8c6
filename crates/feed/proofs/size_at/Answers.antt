-- `feed::size_at` meets its contract: a class's count word is its size, a label's may have a mark. Assumes nothing.
use mathlib.Core.Path.{◌∙◌, sym}
use native.Mathlib.Omega.{arith}
use Rattle.feed.specs.Feed.{class_count}
use Rattle.feed.proofs.Words.{class-size, label-size}
use Rattle.feed.proofs.size_at.Goals as goal

pub returns-then-k-word : goal.returns-then-k-word
unfolding class_count
returns-then-k-word c =
    c.word-then-k-word.ensures ∙ sym (class-size c.args.feed.now c.requires.counted c.args.k (omega arith))

pub returns : goal.returns
unfolding class_count
returns c =
    c.size_of.ensures ∙ sym (label-size c.args.feed.now c.requires.counted c.args.k (omega arith) c.requires.there)
