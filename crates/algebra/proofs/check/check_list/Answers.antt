-- `algebra::check::check_list` meets its contract: the three tests of the length in turn, then each instruction. Assumes nothing.
use borrow.Author.Tests.{le-leb, lt-leb, eq-eqb, ne_eqb}
use Rattle.answers.specs.Verdict.{unless, ◌then◌}
use Rattle.answers.specs.Answers.{verdict_of}
use Rattle.algebra.specs.inner.Parts.{check_instruction_list}
use Rattle.algebra.proofs.check.check_list.Goals as goal

pub returns-then-list-lt1 : goal.returns-then-list-lt1
unfolding verdict_of check_instruction_list unless ◌then◌
returns-then-list-lt1 c =
    rw (lt-leb _ _ c.if-list-lt1.true)

pub returns-then-list-gt-LIST_WORDS : goal.returns-then-list-gt-LIST_WORDS
unfolding verdict_of check_instruction_list unless ◌then◌
returns-then-list-gt-LIST_WORDS c =
    rw (le-leb _ _ c.if-list-lt1.false, lt-leb _ _ c.if-list-gt-LIST_WORDS.true)

pub returns-then-list-ne0 : goal.returns-then-list-ne0
unfolding verdict_of check_instruction_list unless ◌then◌
returns-then-list-ne0 c =
    rw (le-leb _ _ c.if-list-lt1.false, le-leb _ _ c.if-list-gt-LIST_WORDS.false, ne_eqb _ _ c.if-list-ne0.true)

pub returns : goal.returns
unfolding check_instruction_list unless ◌then◌
returns c =
    rw (le-leb _ _ c.if-list-lt1.false, le-leb _ _ c.if-list-gt-LIST_WORDS.false, eq-eqb _ _ c.if-list-ne0.false) c.check_each.ensures
