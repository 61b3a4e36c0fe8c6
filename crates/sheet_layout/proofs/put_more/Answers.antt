-- `sheet_layout::put_more` meets its contract: each turn writes a page. Assumes nothing.
use mathlib.Core.Path.{◌≡◌, ◌∙◌}
use native.Mathlib.Omega.{arith}
use Prim.Native.Nat.{◌+◌}
use Rattle.std.proofs.Common.{rules}
use Rattle.std.specs.Iterator.Adapters.{enumerate_count}
use Rattle.sheet_layout.proofs.Paging.{paging-more, paging-end}
use Rattle.sheet_layout.proofs.put_more.Goals as goal

pub loop-i-preserved : goal.loop-i-preserved
loop-i-preserved c =
    let i = c.loop-i.invariant in
    let steps = c.in-Some.ensures.steps in
    let chunk = steps.0.1 in
    let count = enumerate_count c.loop-i.i-iterator in
    let next : enumerate_count c.next.new.self + 2 ≡ count + 2 + 1 = omega (arith, steps.2) in
    record {
      can = search rules;
      ends = tt;
      size = steps.0.0 ∙ i.size;
      paging = rw next (paging-more i.paging c.requires.some _ _ chunk.0 (rw i.size at chunk.1) chunk.2 (rw steps.1 at c.put_page-k.ensures));
    }

pub returns : goal.returns
returns c =
    paging-end c.loop-i.invariant.paging c.requires.some (c.in-None.ensures.steps.0.1.0)
