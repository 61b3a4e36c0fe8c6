-- `sheet_lines::Tables::entries` meets its contract. Assumes nothing.
use mathlib.Core.Path.{refl}
use Rattle.sheet_lines.specs.inner.State.{tables_read}
use Rattle.sheet_lines.proofs.entries.Tables.entries.Goals as goal

pub returns : goal.returns
unfolding tables_read
returns c =
    refl
