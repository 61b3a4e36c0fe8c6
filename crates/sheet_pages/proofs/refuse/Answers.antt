-- `sheet_pages::refuse` meets its contract: 12, and any other refusal. Assumes nothing.
use Rattle.sheet_pages.proofs.Giving.{zeroed, kept}
use Rattle.sheet_pages.proofs.refuse.Goals as goal

pub returns-in-TooMany : goal.returns-in-TooMany
returns-in-TooMany c =
    rw c.in-TooMany.is (zeroed _ c.clear.ensures)

pub returns : goal.returns
returns c =
    kept _ c.in_default.not-TooMany _
