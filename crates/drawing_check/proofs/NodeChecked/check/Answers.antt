-- `check` of a node meets its contract: each answer by the tests that led to it. Assumes nothing.
use mathlib.Core.Bool.{false}
use mathlib.Core.Path.{◌≡◌}
use borrow.Author.Tests.{le-ltb, lt-ltb, le-leb, lt-leb}
use lib.Dec.{leb}
use Rattle.limits.specs.Limits.{any_object}
use Rattle.answers.specs.Verdict.{unless, ◌then◌}
use Rattle.answers.specs.Answers.{verdict_of}
use Rattle.drawing.specs.Drawing.{check_node}
use Rattle.drawing_check.proofs.NodeChecked.check.Goals as goal

pub returns-then-self-counts : goal.returns-then-self-counts
unfolding verdict_of check_node unless ◌then◌
returns-then-self-counts c =
    simp (le-ltb _ _ c.if-self-counts.true)

pub returns-then-self-gt1 : goal.returns-then-self-gt1
unfolding verdict_of check_node unless ◌then◌
returns-then-self-gt1 c =
    simp (lt-ltb _ _ c.if-self-counts.false, lt-leb _ _ c.if-self-gt1.true)

pub returns-then-self-gt-ANY_OBJECT : goal.returns-then-self-gt-ANY_OBJECT
unfolding verdict_of check_node unless ◌then◌
returns-then-self-gt-ANY_OBJECT c =
    let above : leb c.args.self.fixed any_object ≡ false = lt-leb _ _ c.if-self-gt-ANY_OBJECT.true in
    simp (lt-ltb _ _ c.if-self-counts.false, le-leb _ _ c.if-self-gt1.false, above)

pub returns : goal.returns
unfolding verdict_of check_node unless ◌then◌
returns c =
    simp (lt-ltb _ _ c.if-self-counts.false, le-leb _ _ c.if-self-gt1.false, le-leb _ _ c.if-self-gt-ANY_OBJECT.false)
