-- `sheet_pages::write_pages` meets its contract: the pages, then whether they fit. Assumes nothing.
use Rattle.sheet_pages.proofs.Giving.{fitting, not-fitting}
use Rattle.sheet_pages.proofs.write_pages.Goals as goal

pub returns-then-fits : goal.returns-then-fits
returns-then-fits c =
    fitting c.put_pages-end.ensures c.fits.ensures c.if-fits.true

pub returns : goal.returns
returns c =
    not-fitting c.put_pages-end.ensures c.fits.ensures c.if-fits.false
