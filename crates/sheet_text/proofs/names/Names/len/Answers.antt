-- `sheet_text::Names::len` meets its contract. Assumes nothing.
use mathlib.Core.Path.{◌∙◌, sym, ap}
use lib.ListN.{length, length-map}
use Rattle.sheet_text.proofs.names.Names.len.Goals as goal

pub returns : goal.returns
returns c =
    sym (length-map c.as_slice.result.now (λ t. t.now)) ∙ ap length c.as_slice.ensures
