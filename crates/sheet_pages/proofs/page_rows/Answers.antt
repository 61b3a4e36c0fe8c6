-- `sheet_pages::page_rows` meets its contract: the question, then its rows as pages, or its refusal. Assumes nothing.
use Prim.Native.Nat.{◌-◌}
use native.Mathlib.Omega.{arith}
use mathlib.Core.Path.{refl}
use Rattle.sheet.specs.SheetQuery.{own_slices}
use Rattle.sheet.proofs.Printing.{query-accepted, some-pick}
use Rattle.sheet_pages.proofs.Giving.{gives_same, taken-few, rows-answered, refusal-answered}
use Rattle.sheet_pages.proofs.page_rows.Goals as goal

pub ask-requires : goal.ask-requires
unfolding own_slices
ask-requires c =
    refl

pub picked_names-picked-requires : goal.picked_names-picked-requires
picked_names-picked-requires c =
    rw c.nodes.ensures c.requires.named

pub write_pages-requires : goal.write_pages-requires
write_pages-requires c =
    record {
      some = rw c.requires.picked (some-pick _ _ (query-accepted c.in-Ok.ensures));
      few = c.requires.few;
      words = taken-few (c.in-Ok.n - 0) c.ask.new.rows (omega (arith, c.ask.auto.rows));
    }

pub slice_bounds-write_pages-end : goal.slice_bounds-write_pages-end
slice_bounds-write_pages-end c =
    let a = c.in-Ok.ensures in a.inside

pub returns-in-Ok : goal.returns-in-Ok
returns-in-Ok c =
    gives_same
    (rows-answered _ _ _ _ (omega (arith, c.requires.picked, c.requires.few)) c.in-Ok.ensures c.requires.picked)
    (rw (c.picked_names-picked.ensures, c.nodes.ensures) at c.write_pages.ensures)

pub returns-in-Err : goal.returns-in-Err
returns-in-Err c =
    gives_same (refusal-answered _ _ _ _ (omega (arith, c.requires.picked, c.requires.few)) c.in-Err.ensures) c.refuse.ensures
