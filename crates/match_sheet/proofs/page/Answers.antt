-- Pages fit, and so does the line of a refusal. Assumes nothing.
use Prim.Native.Nat.{◌-◌}
use native.Mathlib.Omega.{arith}
use mathlib.Core.Path.{◌∙◌}
use lib.ListN.{take}
use Rattle.answers.specs.Answers.{verdict_of}
use Rattle.sheet_pages.specs.SheetPages.{printed_pages}
use Rattle.sheet_pages.proofs.Printed.{pages-inside, pages-printed, refusal-printed, refusal-listed, cut-printed}
use Rattle.match_sheet.proofs.Cut.{decided}
use Rattle.match_sheet.proofs.page.Goals as goal

pub returns-in-Ok : goal.returns-in-Ok
returns-in-Ok c =
    let a = c.args in
    let h = c.requires in
    let part = take (a.n - 0) a.input.now in
    record {
      inside = omega (arith, pages-inside part a.out.now h.fits c.in-Ok.ensures, c.sheet_pages.auto.pages);
      prints = λ input e. pages-printed part a.out.now h.fits c.in-Ok.ensures ∙ decided printed_pages cut-printed a.input.now a.n h.decides input e;
    }

pub returns-in-Err : goal.returns-in-Err
unfolding verdict_of
returns-in-Err c =
    let a = c.args in
    let h = c.requires in
    let w = c.write_refusal in
    let part = take (a.n - 0) a.input.now in
    let l = refusal-listed _ _ (omega (arith, h.fits, c.sheet_pages.auto.pages)) w.ensures in
    record {
      inside = omega (arith, l.0, w.auto.out);
      prints = λ input e. l.1 ∙ refusal-printed part a.out.now h.fits c.in-Err.ensures ∙ decided printed_pages cut-printed a.input.now a.n h.decides input e;
    }
