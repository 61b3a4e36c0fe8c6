-- Lines: how many lines of classes and labels a sheet can have. Assumes nothing.
use Rattle.std.specs.Prelude.{ℕ, ◌/◌}
use Rattle.limits.specs.Limits.{most_bytes}

-- a line of a class or label has at least four bytes
abbrev pub most_lines : ℕ
most_lines = most_bytes / 4
