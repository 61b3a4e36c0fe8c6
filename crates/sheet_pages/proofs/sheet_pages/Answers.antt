-- `sheet_pages::sheet_pages` meets its contract: a sheet that was read, or its first breach. Assumes nothing.
use mathlib.Core.Path.{sym}
use Rattle.sheet_pages.proofs.Giving.{gives_same, sheet-refused, whole-answered}
use Rattle.sheet_pages.proofs.sheet_pages.Goals as goal

pub slice_bounds-page_answer-end : goal.slice_bounds-page_answer-end
slice_bounds-page_answer-end c =
    let g = c.in-Ok.ensures in g.given.shown.fits

pub page_answer-requires : goal.page_answer-requires
page_answer-requires c =
    let g = c.in-Ok.ensures in sym g.given.shown.drawn

pub returns-in-Ok : goal.returns-in-Ok
returns-in-Ok c =
    let g = c.in-Ok.ensures in gives_same (whole-answered g.given.shown _) c.page_answer.ensures

pub returns-in-Err : goal.returns-in-Err
returns-in-Err c =
    gives_same (sheet-refused c.in-Err.ensures _) c.refuse.ensures
