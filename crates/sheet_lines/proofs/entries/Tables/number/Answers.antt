-- `sheet_lines::Tables::number` meets its contract. Assumes nothing.
use mathlib.Core.Path.{refl, ◌∙◌, sym}
use Rattle.sheet_lines.proofs.Naming.{stays-numbered, new-numbered, new-fits}
use Rattle.sheet_lines.proofs.entries.Tables.number.Goals as goal

pub returns-in-Some : goal.returns-in-Some
returns-in-Some c =
    let f = c.in-Some.ensures in
    record { names = stays-numbered _ _ 0 (sym f.known); place = f.place; entries = refl; lines = refl }

pub add-requires : goal.add-requires
add-requires c =
    let f = c.in_default.ensures in
    new-fits _ _ _ (sym f.known) c.requires

pub returns : goal.returns
returns c =
    let f = c.in_default.ensures in
    record { names = c.add.ensures ∙ new-numbered _ _ 0 (sym f.known); place = c.len-k.ensures ∙ f.place; entries = refl; lines = refl }
