-- `sheet_listing::put_gap` meets its contract: nothing, or a space. Assumes nothing.
use Rattle.sheet_listing.specs.inner.Written.{gap}
use Rattle.sheet_writer.proofs.Putting.{put-nothing}
use Rattle.sheet_listing.proofs.put_gap.Goals as goal

pub returns-then-first : goal.returns-then-first
unfolding gap
returns-then-first c =
    rw c.if-first.true (put-nothing _ _)

pub returns : goal.returns
unfolding gap
returns c =
    rw c.if-first.false c.put_byte.ensures
