-- `sheet::print_answer` meets its contract. Assumes nothing.
use mathlib.Core.Path.{refl, ◌∙◌}
use Rattle.answers.specs.Answers.{verdict_of}
use Rattle.sheet.specs.SheetQuery.{own_slices}
use Rattle.sheet.proofs.Printing.{query-accepted, some-pick, rows-listed, refusal-listed}
use Rattle.sheet.proofs.print_answer.Goals as goal

pub ask-requires : goal.ask-requires
unfolding own_slices
ask-requires c =
    refl

pub picked_names-picked-requires : goal.picked_names-picked-requires
picked_names-picked-requires c =
    rw c.nodes.ensures c.requires

pub write_listing-requires : goal.write_listing-requires
write_listing-requires c =
    rw c.count_picks-picks.ensures (some-pick _ _ (query-accepted c.in-Ok.ensures))

pub slice_bounds-write_listing-end : goal.slice_bounds-write_listing-end
slice_bounds-write_listing-end c =
    let a = c.in-Ok.ensures in a.inside

pub returns-in-Ok : goal.returns-in-Ok
returns-in-Ok c =
    c.write_listing.ensures ∙ rw (c.picked_names-picked.ensures, c.nodes.ensures) (rows-listed _ _ c.in-Ok.ensures c.count_picks-picks.ensures)

pub returns-in-Err : goal.returns-in-Err
unfolding verdict_of
returns-in-Err c =
    c.write_refusal.ensures ∙ refusal-listed _ _ c.in-Err.ensures
