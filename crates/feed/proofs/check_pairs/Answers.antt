-- `feed::check_pairs` meets its contract: a table that passes is accepted, another is walked. Assumes nothing.
use mathlib.Core.Path.{sym}
use Rattle.answers.specs.Answers.{verdict_of}
use Rattle.feed.proofs.check_pairs.Goals as goal

pub returns-then-passes : goal.returns-then-passes
unfolding verdict_of
returns-then-passes c =
    sym (c.passes.ensures.accepts c.if-passes.true)
