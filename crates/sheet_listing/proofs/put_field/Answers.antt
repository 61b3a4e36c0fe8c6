-- `sheet_listing::put_field` meets its contract: what stands before the field, then its text. Assumes nothing.
use Rattle.sheet_writer.proofs.Putting.{put_then}
use Rattle.sheet_listing.proofs.put_field.Goals as goal

pub returns : goal.returns
returns g c =
    put_then c.put_gap-k.ensures c.put.ensures
