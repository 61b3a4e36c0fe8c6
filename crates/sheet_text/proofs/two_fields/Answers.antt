-- `sheet_text::two_fields` meets its contract. Assumes nothing.
use Rattle.sheet_text.proofs.Parts.{one-field, two-shown, three-stand}
use Rattle.sheet_text.proofs.two_fields.Goals as goal

pub returns-in_err-first : goal.returns-in_err-first
returns-in_err-first c =
    rw c.from_residual.ensures (one-field 0 c.in_err-first.ensures)

pub returns-then-more : goal.returns-then-more
returns-then-more c =
    three-stand c.in_ok-first.ensures (rw c.contains-more.ensures.value at c.if-more.true)

pub returns : goal.returns
returns c =
    two-shown c.in_ok-first.ensures (rw c.contains-more.ensures.value at c.if-more.false)
