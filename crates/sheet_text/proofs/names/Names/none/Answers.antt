-- `sheet_text::Names::none` meets its contract. Assumes nothing.
use mathlib.Core.Path.{refl}
use Rattle.sheet_text.specs.inner.Parts.{names_of}
use Rattle.sheet_text.proofs.names.Names.none.Goals as goal

pub returns : goal.returns
unfolding names_of
returns c =
    refl
