-- `sheet_lines::State::is_complete` meets its contract. Assumes nothing.
use Rattle.sheet_lines.specs.inner.State.{view_of}
use Rattle.sheet_lines.proofs.Steps.{is-last}
use Rattle.sheet_lines.proofs.State.is_complete.Goals as goal

pub returns : goal.returns
unfolding view_of
returns c =
    rw (c.eq.ensures, is-last)
