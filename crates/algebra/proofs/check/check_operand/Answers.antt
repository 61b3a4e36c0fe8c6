-- `algebra::check::check_operand` meets its contract. Assumes nothing.
use Rattle.answers.specs.Answers.{verdict_of}
use Rattle.algebra.proofs.Signatures.{operand-there, operand-absent}
use Rattle.algebra.proofs.check.check_operand.Goals as goal

pub returns-then-w-bound : goal.returns-then-w-bound
unfolding verdict_of
returns-then-w-bound c =
    operand-there _ _ _ c.if-w-bound.true

pub returns : goal.returns
unfolding verdict_of
returns c =
    operand-absent _ _ _ c.if-w-bound.false
