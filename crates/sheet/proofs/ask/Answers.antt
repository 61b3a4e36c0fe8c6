-- `sheet::ask` meets its contract. Assumes nothing.
use Rattle.algebra.specs.Run.{room_of}
use Rattle.run_list.specs.inner.Given.{needed}
use Rattle.sheet.specs.SheetQuery.{own_slices}
use Rattle.sheet.proofs.Printing.{own-slices, asked}
use native.Mathlib.Omega.{arith}
use Rattle.sheet.proofs.ask.Goals as goal

pub query_built-requires : goal.query_built-requires
unfolding needed room_of
query_built-requires c =
    record { scratch = omega arith; many = omega arith }

pub returns : goal.returns
unfolding own_slices
returns c =
    asked (own-slices c.requires) c.query_built.ensures
