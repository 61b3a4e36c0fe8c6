-- `sheet_listing::write_listing` meets its contract: the line of names, then the lines of the rows. Assumes nothing.
use Rattle.sheet_listing.specs.Listing.{line, listing}
use Rattle.sheet_writer.proofs.Putting.{put_same, put_then}
use Rattle.sheet_listing.proofs.Ending.{finished-listed}
use Rattle.sheet_listing.proofs.write_listing.Goals as goal
use mathlib.Core.Path.{ap}

pub returns : goal.returns
unfolding listing
returns c =
    finished-listed (put_then (put_same (ap line c.as_slice.ensures) c.put_line-k.ensures) c.put_rows-end.ensures) c.finish.ensures
