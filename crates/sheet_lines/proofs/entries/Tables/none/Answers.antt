-- `sheet_lines::Tables::none` meets its contract. Assumes nothing.
use Rattle.sheet_lines.specs.inner.State.{tables_read}
use Rattle.sheet_lines.proofs.entries.Tables.none.Goals as goal

pub returns : goal.returns
unfolding tables_read
returns c =
    rw c.none.ensures
