-- `algebra::check::check_each` meets its contract. The loop's invariant: the check of the instructions from here on answers as that of all.
-- Assumes nothing.
use mathlib.Core.Path.{◌∙◌, sym, ap}
use Prim.Native.Nat.{◌+◌, ◌<◌, ◌≤◌}
use native.Mathlib.Omega.{arith}
use lib.ListN.{drop, length}
use Rattle.answers.specs.Verdict.{Verdict, ◌then◌}
use Rattle.answers.specs.Answers.{verdict_of}
use Rattle.answers.proofs.Refusing.{leaves, stands, handed}
use Rattle.algebra.specs.Instructions.{Instruction, instruction, instructions_of, check_instruction, check_each}
use Rattle.algebra.proofs.Instructions.{length-instructions_of, check-next, check-ends}
use Rattle.algebra.proofs.check.check_each.Goals as goal

pub returns-in_err-check_instruction : goal.returns-in_err-check_instruction
returns-in_err-check_instruction c =
    let a = c.args in
    let i = c.loop-i.i in
    let code = instructions_of a.list.now in
    let l : i < length code = omega (arith, length-instructions_of a.list.now) in
    let turn = ap (λ (v : Verdict). v then check_each a.feed.now (i + 1) (drop (i + 1) code))
    (c.check_instruction.ensures ∙ ap (λ (ins : Instruction). check_instruction a.feed.now i ins) c.instruction_at.ensures) ∙ sym
    (check-next a.feed.now i code (instruction 0 0 0) l) ∙ c.loop-i.invariant.1 in
    handed c.from_residual.result _ c.from_residual.ensures.1 ∙ stands _ _ c.in_err-check_instruction.was ∙ turn

pub loop-i-preserved : goal.loop-i-preserved
loop-i-preserved c =
    let a = c.args in
    let i = c.loop-i.i in
    let code = instructions_of a.list.now in
    let l : i < length code = omega (arith, length-instructions_of a.list.now) in
    let turn = ap (λ (v : Verdict). v then check_each a.feed.now (i + 1) (drop (i + 1) code))
    (c.check_instruction.ensures ∙ ap (λ (ins : Instruction). check_instruction a.feed.now i ins) c.instruction_at.ensures) ∙ sym
    (check-next a.feed.now i code (instruction 0 0 0) l) ∙ c.loop-i.invariant.1 in
    (omega arith, leaves _ _ c.in_ok-check_instruction.was ∙ turn)

pub returns : goal.returns
unfolding verdict_of
returns c =
    let a = c.args in
    let i = c.loop-i.i in
    let code = instructions_of a.list.now in
    let l : length code ≤ i = omega (arith, length-instructions_of a.list.now) in
    sym (check-ends a.feed.now i code l) ∙ c.loop-i.invariant.1
