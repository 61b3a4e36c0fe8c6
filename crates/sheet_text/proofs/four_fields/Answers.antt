-- `sheet_text::four_fields` meets its contract. Assumes nothing.
use Rattle.sheet_text.proofs.Parts.{one-field, others-few, next-shown}
use Rattle.sheet_text.proofs.four_fields.Goals as goal

pub returns-in_err-first : goal.returns-in_err-first
returns-in_err-first c =
    rw c.from_residual.ensures (one-field 2 c.in_err-first.ensures)

pub returns-in_err-second : goal.returns-in_err-second
returns-in_err-second c =
    rw c.from_residual-in_err-second.ensures (others-few 3 c.in_ok-first.ensures c.in_err-second.ensures)

pub returns : goal.returns
returns c =
    next-shown c.in_ok-first.ensures c.in_ok-second.ensures
