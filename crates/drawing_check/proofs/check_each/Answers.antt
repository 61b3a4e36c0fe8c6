-- `drawing_check::check_each` meets its contract. The loop's invariant: the check of those from i on is that of all. Assumes nothing.
use mathlib.Core.Path.{◌∙◌}
use Rattle.answers.specs.Answers.{verdict_of}
use Rattle.answers.proofs.Refusing.{leaves, stands, handed}
use Rattle.drawing.proofs.Checks.{check-all, check-next, check-none}
use native.Mathlib.Omega.{arith}
use Rattle.drawing_check.proofs.check_each.Goals as goal

pub loop-i-init : goal.loop-i-init
loop-i-init g c =
    (omega arith, check-all _ _ _ _ _ _)

pub returns : goal.returns
unfolding verdict_of
returns g c =
    check-none _ _ _ _ _ _ c.loop-i.i c.loop-i-test.false ∙ c.loop-i.invariant.1

pub returns-in_err-check : goal.returns-in_err-check
returns-in_err-check g c =
    let one = rw (c.read.ensures, c.WORDS.ensures) at c.check.ensures in
    handed c.from_residual.result _ c.from_residual.ensures.1 ∙ stands _ _ c.in_err-check.was ∙ check-next _ _ _ _ _ _ c.loop-i.i c.loop-i-test.true one ∙ c.loop-i.invariant.1

pub loop-i-preserved : goal.loop-i-preserved
loop-i-preserved g c =
    let one = rw (c.read.ensures, c.WORDS.ensures) at c.check.ensures in
    (omega (arith, c.loop-i-test.true), leaves _ _ c.in_ok-check.was ∙ check-next _ _ _ _ _ _ c.loop-i.i c.loop-i-test.true one ∙ c.loop-i.invariant.1)
