-- Every text fits, and what follows the bytes that decide does not change it. Assumes nothing.
use Prim.Native.Nat.{◌-◌}
use native.Mathlib.Omega.{arith}
use mathlib.Core.Path.{◌∙◌}
use lib.ListN.{take}
use Rattle.sheet.specs.SheetQuery.{sheet_listing}
use Rattle.sheet.proofs.Longest.{cut-same, listed-inside, listing-printed}
use Rattle.match_sheet.proofs.Cut.{decided}
use Rattle.match_sheet.proofs.list.Goals as goal

pub returns : goal.returns
returns c =
    let a = c.args in
    let q = c.sheet_query in
    let part = take (a.n - 0) a.input.now in
    record {
      inside = omega (arith, listed-inside part a.out.now q.ensures, q.auto.listing);
      prints = λ input e. listing-printed part a.out.now (omega (arith, c.requires.fits)) q.ensures ∙ decided sheet_listing cut-same a.input.now a.n c.requires.decides input e;
    }
