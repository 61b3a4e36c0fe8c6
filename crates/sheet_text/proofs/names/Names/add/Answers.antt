-- `sheet_text::Names::add` meets its contract. Assumes nothing.
use mathlib.Core.Path.{refl, ◌∙◌}
use native.Mathlib.Omega.{arith}
use lib.ListN.{length-set}
use Rattle.sheet_text.proofs.Finding.{length-names, extended}
use Rattle.sheet_text.proofs.names.Names.add.Goals as goal

pub bounds-self-self : goal.bounds-self-self
bounds-self-self c =
    rw (length-names c.args.self.now) at c.requires

pub invariant_of-self-2 : goal.invariant_of-self-2
invariant_of-self-2 c =
    let x = c.args.self.now in
    record { few = omega (arith, length-names x, c.requires); size = length-set x.texts x.n c.args.name ∙ x.size }

pub returns : goal.returns
returns c =
    extended c.args.self.now _ c.args.name (rw (length-names c.args.self.now) at c.requires) refl refl
