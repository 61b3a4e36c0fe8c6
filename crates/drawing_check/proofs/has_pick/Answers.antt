-- `drawing_check::has_pick` meets its contract. The loop's invariant: whether a node from i on is picked is whether any is. Assumes nothing.
use mathlib.Core.Path.{◌≡◌}
use mathlib.Core.List.{◌∷◌}
use borrow.Author.Tests.{eq-eqb, ne_eqb}
use Prim.Native.Nat.{◌+◌}
use lib.ListN.{drop}
use Rattle.tables.specs.Lists.{any}
use Rattle.drawing.specs.Drawing.{head_width, node_width, node_of, read_each, is_picked}
use Rattle.drawing.proofs.Encoding.{each_from, each_more, each-done, each_all}
use native.Mathlib.Omega.{arith}
use Rattle.drawing_check.proofs.has_pick.Goals as goal

pub loop-i-init : goal.loop-i-init
loop-i-init c =
    let a = c.args in (omega arith, rw (each_all node_of node_width a.words.now head_width a.n))

pub returns-then-read-eq1 : goal.returns-then-read-eq1
unfolding any is_picked
returns-then-read-eq1 c =
    let turn :
    let a = c.args in
    any is_picked (c.read.result ∷ each_from node_of node_width a.words.now head_width a.n (c.loop-i.i + 1)) ≡ any is_picked
    (read_each node_of node_width a.n (drop head_width a.words.now)) =
    let a = c.args in
    rw c.read.ensures (rw (each_more node_of node_width a.words.now head_width a.n c.loop-i.i c.loop-i-test.true) at c.loop-i.invariant.1) in
    rw (eq-eqb _ _ c.if-read-eq1.true) at (turn)

pub loop-i-preserved : goal.loop-i-preserved
unfolding any is_picked
loop-i-preserved c =
    let turn :
    let a = c.args in
    any is_picked (c.read.result ∷ each_from node_of node_width a.words.now head_width a.n (c.loop-i.i + 1)) ≡ any is_picked
    (read_each node_of node_width a.n (drop head_width a.words.now)) =
    let a = c.args in
    rw c.read.ensures (rw (each_more node_of node_width a.words.now head_width a.n c.loop-i.i c.loop-i-test.true) at c.loop-i.invariant.1) in
    (omega (arith, c.loop-i-test.true), rw (ne_eqb _ _ c.if-read-eq1.false) at (turn))

pub returns : goal.returns
unfolding any
returns c =
    let a = c.args in
    rw (each-done node_of node_width a.words.now head_width a.n c.loop-i.i c.loop-i-test.false) at c.loop-i.invariant.1
