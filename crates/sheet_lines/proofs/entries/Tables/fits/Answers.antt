-- `sheet_lines::Tables::fits` meets its contract. Assumes nothing.
use Rattle.sheet_lines.proofs.Naming.{fits-is}
use Rattle.sheet_lines.proofs.entries.Tables.fits.Goals as goal

pub returns : goal.returns
returns c =
    rw (c.len.ensures, c.knows.ensures) (fits-is _ _ _ c.requires)
