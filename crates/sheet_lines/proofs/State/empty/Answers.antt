-- `sheet_lines::State::empty` meets its contract. Assumes nothing.
use mathlib.Core.Path.{refl}
use Rattle.sheet_lines.proofs.Steps.{empty-state}
use Rattle.sheet_lines.proofs.State.empty.Goals as goal

pub returns : goal.returns
returns c =
    empty-state _ refl refl c.none.ensures c.none-2.ensures c.none-3.ensures c.empty.ensures
