-- `sheet_writer::picked_names` meets its contract: the names picked so far, then those that are left. Assumes nothing.
use native.Mathlib.Omega.{arith}
use mathlib.Core.Path.{ap}
use mathlib.Core.List.{[]}
use lib.ListN.{length, length-map}
use Rattle.sheet_text.proofs.Finding.{length-names, text-in}
use Rattle.sheet_writer.proofs.Picked.{picking-start, picking-takes, picking-skips, picking-end}
use Rattle.sheet_writer.proofs.picked_names.Goals as goal
use Rattle.sheet_writer.proofs.picked_names.Goals.{then-node-eq1, else-node-eq1}

pub loop-i-init : goal.loop-i-init
loop-i-init c =
    rw c.none-picked.ensures (picking-start _ _)

pub bounds-texts-i : goal.bounds-texts-i
bounds-texts-i c =
    let l = ap length c.as_slice-texts.ensures in
    omega (arith, c.loop-i-test.true, c.requires, length-map c.as_slice-texts.result.now (λ t. t.now))

pub add-requires : goal.add-requires
add-requires c =
    let x = c.args.names.now in
    omega (arith, c.loop-i-test.true, c.requires, c.loop-i.invariant.few, length-names x, x.few)

pub loop-i-preserved : goal.loop-i-preserved
loop-i-preserved c =
    let l = ap length c.as_slice-texts.ensures in
    let m = length-map c.as_slice-texts.result.now (λ t. t.now) in
    elim c.if-node-eq1.branch [
      | then-node-eq1 w ↦
          rw (w.picked-is, w.add.ensures)
          (picking-takes c.loop-i.invariant c.requires c.loop-i-test.true w.if-node-eq1.true _
          (rw (← c.as_slice-texts.ensures) (text-in c.as_slice-texts.result.now c.loop-i.i _ [] (omega (arith, c.loop-i-test.true, c.requires, l, m)))))
      | else-node-eq1 w ↦ rw w.picked-is (picking-skips c.loop-i.invariant c.requires c.loop-i-test.true w.if-node-eq1.false)
    ]

pub returns : goal.returns
returns c =
    picking-end c.loop-i.invariant c.requires c.loop-i-test.false
