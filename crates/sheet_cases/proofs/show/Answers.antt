-- A listing is no longer than the slice. Assumes nothing.
use native.Mathlib.Omega.{arith}
use Rattle.sheet.proofs.Longest.{listed-inside}
use Rattle.sheet_cases.proofs.show.Goals as goal

pub slice_bounds-write_all-end : goal.slice_bounds-write_all-end
slice_bounds-write_all-end g c = omega (arith, listed-inside _ _ c.matcher_sheet_query-m.ensures, c.matcher_sheet_query-m.auto.listing)
