-- `sheet_layout::end_line` meets its contract: spaces, then a line feed. Assumes nothing.
use mathlib.Core.Path.{ap}
use Prim.Native.Nat.{ℕ, ◌*◌}
use lib.ListN.{replicate}
use Rattle.limits.specs.Limits.{column_width}
use Rattle.sheet_writer.proofs.Putting.{put_same, put_then}
use Rattle.sheet_layout.proofs.end_line.Goals as goal

pub returns : goal.returns
returns c =
    put_then (put_same (ap (λ (m : ℕ). replicate (column_width * m) 32) c.saturating_sub-blank.ensures) c.put_spaces-k.ensures) c.put_byte.ensures
