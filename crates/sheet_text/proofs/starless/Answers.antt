-- `sheet_text::starless` meets its contract. Assumes nothing.
use mathlib.Core.Path.{◌∙◌, sym}
use Rattle.sheet_text.proofs.Words.{starred-some}
use Rattle.sheet_text.proofs.starless.Goals as goal

pub slice_bounds-result-count : goal.slice_bounds-result-count
slice_bounds-result-count c =
    starred-some _ (sym c.is_starred.ensures ∙ c.if-is_starred.true)
