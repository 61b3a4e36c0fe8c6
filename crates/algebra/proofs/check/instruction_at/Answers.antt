-- `algebra::check::instruction_at` meets its contract: the three words stand together. Assumes nothing.
use mathlib.Core.Path.{sym}
use native.Mathlib.Omega.{arith}
use Rattle.tables.proofs.Members.{at-get_or}
use Rattle.algebra.specs.Instructions.{instruction}
use Rattle.algebra.proofs.Instructions.{instruction-at}
use Rattle.algebra.proofs.check.instruction_at.Goals as goal

pub returns : goal.returns
returns c =
    let a = c.args in sym (at-get_or (instruction-at a.list.now a.i (omega arith)) (instruction 0 0 0))
