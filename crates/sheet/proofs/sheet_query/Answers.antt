-- `sheet::sheet_query` meets its contract. Assumes nothing.
use mathlib.Core.Path.{sym, ◌∙◌}
use Rattle.answers.specs.Answers.{verdict_of}
use Rattle.sheet.proofs.Printing.{sheet-refused, whole-listed}
use Rattle.sheet.proofs.sheet_query.Goals as goal

pub slice_bounds-print_answer-end : goal.slice_bounds-print_answer-end
slice_bounds-print_answer-end c =
    let g = c.in-Ok.ensures in g.given.shown.fits

pub print_answer-requires : goal.print_answer-requires
print_answer-requires c =
    let g = c.in-Ok.ensures in sym g.given.shown.drawn

pub returns-in-Ok : goal.returns-in-Ok
returns-in-Ok c =
    let g = c.in-Ok.ensures in c.print_answer.ensures ∙ whole-listed g.given.shown _

pub returns-in-Err : goal.returns-in-Err
unfolding verdict_of
returns-in-Err c =
    c.write_refusal.ensures ∙ sheet-refused c.in-Err.ensures _
