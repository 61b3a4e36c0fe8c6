-- `sheet_text::number_or_any` meets its contract. Assumes nothing.
use mathlib.Core.Path.{◌∙◌, sym}
use Rattle.sheet_text.proofs.Words.{dash-or-number}
use Rattle.sheet_text.proofs.number_or_any.Goals as goal

pub value_of-requires : goal.value_of-requires
value_of-requires c =
    dash-or-number _ (sym c.is_dash.ensures ∙ c.if-is_dash.false) c.requires
