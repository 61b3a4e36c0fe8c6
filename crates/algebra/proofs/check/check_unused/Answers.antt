-- `algebra::check::check_unused` meets its contract. Assumes nothing.
use Rattle.answers.specs.Answers.{verdict_of}
use Rattle.algebra.proofs.Signatures.{unused-zero, unused-not-zero}
use Rattle.algebra.proofs.check.check_unused.Goals as goal

pub returns-then-w-eq0 : goal.returns-then-w-eq0
unfolding verdict_of
returns-then-w-eq0 c =
    unused-zero _ _ c.if-w-eq0.true

pub returns : goal.returns
unfolding verdict_of
returns c =
    unused-not-zero _ _ c.if-w-eq0.false
