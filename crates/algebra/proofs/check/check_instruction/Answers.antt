-- `algebra::check::check_instruction` meets its contract: a number that no kind has, or the operands of the kind's shape. Assumes nothing.
use Rattle.answers.specs.Answers.{verdict_of}
use Rattle.algebra.specs.Instructions.{check_instruction}
use Rattle.algebra.proofs.Signatures.{kind-unknown}
use Rattle.algebra.proofs.check.check_instruction.Goals as goal

pub returns-in_default : goal.returns-in_default
unfolding verdict_of check_instruction
returns-in_default c =
    let a = c.args in
    kind-unknown a.feed.now a.i a.ins.a a.ins.b c.in_default.ensures.1

pub returns : goal.returns
unfolding check_instruction
returns c =
    rw (← c.in-Ok.ensures, ← c.shape.ensures) c.check_words.ensures
