-- `check` of an edge meets its contract: each answer by the tests that led to it. Assumes nothing.
use borrow.Author.Tests.{le-ltb, lt-ltb}
use Rattle.answers.specs.Verdict.{unless, ◌then◌}
use Rattle.answers.specs.Answers.{verdict_of}
use Rattle.drawing.specs.Drawing.{check_edge}
use Rattle.drawing_check.proofs.EdgeChecked.check.Goals as goal

pub returns-then-self-counts : goal.returns-then-self-counts
unfolding verdict_of check_edge unless ◌then◌
returns-then-self-counts c =
    simp (le-ltb _ _ c.if-self-counts.true)

pub returns-then-self-counts-2 : goal.returns-then-self-counts-2
unfolding verdict_of check_edge unless ◌then◌
returns-then-self-counts-2 c =
    simp (lt-ltb _ _ c.if-self-counts.false, le-ltb _ _ c.if-self-counts-2.true)

pub returns-then-self-counts-3 : goal.returns-then-self-counts-3
unfolding verdict_of check_edge unless ◌then◌
returns-then-self-counts-3 c =
    simp (lt-ltb _ _ c.if-self-counts.false, lt-ltb _ _ c.if-self-counts-2.false, le-ltb _ _ c.if-self-counts-3.true)

pub returns : goal.returns
unfolding verdict_of check_edge unless ◌then◌
returns c =
    simp (lt-ltb _ _ c.if-self-counts.false, lt-ltb _ _ c.if-self-counts-2.false, lt-ltb _ _ c.if-self-counts-3.false)
