-- `algebra::check::two_operands` meets its contract: the first word, then the second. Assumes nothing.
use mathlib.Core.Path.{ap, ◌∙◌}
use Rattle.answers.specs.Answers.{verdict_of}
use Rattle.answers.proofs.Refusing.{both}
use Rattle.algebra.proofs.check.two_operands.Goals as goal

pub returns : goal.returns
returns c =
    ap verdict_of c.and.ensures ∙ rw (← c.check_operand.ensures, ← c.check_operand-2.ensures) (both c.check_operand.result c.check_operand-2.result)
