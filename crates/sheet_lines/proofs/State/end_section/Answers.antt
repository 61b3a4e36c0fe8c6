-- `sheet_lines::State::end_section` meets its contract. Assumes nothing.
use Rattle.sheet_lines.proofs.Steps.{last-section, section-ended}
use Rattle.sheet_lines.proofs.State.end_section.Goals as goal

pub returns-in_err-self : goal.returns-in_err-self
returns-in_err-self c =
    rw c.from_residual.ensures (last-section c.requires c.in_err-self.ensures)

pub returns : goal.returns
returns c =
    section-ended c.requires c.in_ok-self.field-0 c.in_ok-self.ensures
