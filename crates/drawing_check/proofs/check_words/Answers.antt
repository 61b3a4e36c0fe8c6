-- `drawing_check::check_words` meets its contract: the length first, then what the words show. Assumes nothing.
use mathlib.Core.Path.{◌∙◌, sym}
use Rattle.answers.specs.Verdict.{unless, ◌then◌}
use Rattle.answers.specs.Answers.{verdict_of}
use Rattle.drawing_check.proofs.check_words.Goals as goal

pub check_pattern-requires : goal.check_pattern-requires
unfolding unless
check_pattern-requires c =
    record { headed = c.requires; sized = sym c.right_length.ensures ∙ rw c.if-right_length.true }

pub returns-then-right_length : goal.returns-then-right_length
unfolding unless ◌then◌
returns-then-right_length c =
    rw (← c.right_length.ensures, c.if-right_length.true) c.check_pattern.ensures

pub returns : goal.returns
unfolding verdict_of unless ◌then◌
returns c =
    rw (← c.right_length.ensures, c.if-right_length.false)
