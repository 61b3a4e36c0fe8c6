-- `sheet_lines::Tables::add` meets its contract. Assumes nothing.
use mathlib.Core.Path.{refl, ◌∙◌}
use native.Mathlib.Omega.{arith}
use lib.ListN.{length-set}
use Rattle.sheet_text.specs.inner.Parts.{names_of}
use Rattle.sheet_text.proofs.Finding.{length-names, find-bound}
use Rattle.sheet_lines.proofs.Adding.{length-lines, added}
use Rattle.sheet_lines.proofs.entries.Tables.add.Goals as goal

pub overflow_cast-table : goal.overflow_cast-table
overflow_cast-table c =
    let x = c.args.self.now.names in
    omega (arith, c.number-table.ensures.place, find-bound c.args.name.now (names_of x), length-names x, x.few)

pub bounds-self-self : goal.bounds-self-self
bounds-self-self c =
    omega (arith, c.number-table.ensures.lines, length-lines c.args.self.now, c.requires.room)

pub invariant_of-self : goal.invariant_of-self
invariant_of-self c =
    let y = c.number-table.new.self in
    record { few = omega (arith, c.number-table.ensures.lines, length-lines c.args.self.now, c.requires.room); size = length-set y.entries y.lines _ ∙ y.size }

pub returns : goal.returns
returns c =
    added c.number-table.ensures c.args.entry _ refl refl refl (omega (arith, length-lines c.args.self.now, c.requires.room))
