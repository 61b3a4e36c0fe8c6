-- `drawing_check::check_pattern` meets its contract: the nodes, the edges, then the picks. Assumes nothing.
use mathlib.Core.Path.{◌∙◌}
use Rattle.answers.specs.Verdict.{unless}
use Rattle.answers.specs.Answers.{verdict_of}
use Rattle.answers.proofs.Refusing.{leaves, stands, handed}
use Rattle.drawing.specs.Drawing.{node_count, edge_count}
use Rattle.drawing.proofs.Encoding.{lengths}
use Rattle.drawing.proofs.Checks.{pattern-check}
use native.Mathlib.Omega.{arith}
use Rattle.drawing_check.proofs.check_pattern.Goals as goal

pub bounds-words-0 : goal.bounds-words-0
bounds-words-0 c =
    let l = lengths _ c.requires.sized in omega (arith, l.headed)

pub bounds-words-1 : goal.bounds-words-1
bounds-words-1 c =
    let l = lengths _ c.requires.sized in omega (arith, l.headed)

pub check_each-requires : goal.check_each-requires
unfolding node_count edge_count
check_each-requires c =
    let l = lengths _ c.requires.sized in record { inside = omega (arith, l.exact); few = omega (arith, l.exact, l.few_nodes, l.few_edges) }

pub returns-in_err-check_each : goal.returns-in_err-check_each
unfolding node_count edge_count
returns-in_err-check_each c =
    let a = c.args in
    handed c.from_residual.result _ c.from_residual.ensures.1
    ∙ rw (pattern-check a.feed.now a.words.now, ← c.class_count.ensures, ← c.check_each.ensures) (stands _ _ c.in_err-check_each.was)

pub check_each-requires-2 : goal.check_each-requires-2
unfolding node_count edge_count
check_each-requires-2 c =
    let l = lengths _ c.requires.sized in record { inside = omega (arith, l.exact); few = omega (arith, l.exact, l.few_nodes, l.few_edges) }

pub returns-in_err-check_each-2 : goal.returns-in_err-check_each-2
unfolding node_count edge_count
returns-in_err-check_each-2 c =
    let a = c.args in
    handed c.from_residual-in_err-check_each-2.result _ c.from_residual-in_err-check_each-2.ensures.1
    ∙ rw
    (pattern-check a.feed.now a.words.now, ← c.class_count.ensures, ← c.label_count.ensures, ← c.check_each.ensures, ← c.check_each-2.ensures)
    (stands _ _ c.in_err-check_each-2.was ∙ leaves _ _ c.in_ok-check_each.was)

pub has_pick-requires : goal.has_pick-requires
unfolding node_count edge_count
has_pick-requires c =
    let l = lengths _ c.requires.sized in omega (arith, l.exact)

pub returns-then-has_pick : goal.returns-then-has_pick
unfolding verdict_of unless node_count edge_count
returns-then-has_pick c =
    let a = c.args in
    rw
    (pattern-check a.feed.now a.words.now, ← c.class_count.ensures, ← c.label_count.ensures, ← c.check_each.ensures, ← c.check_each-2.ensures, ← c.has_pick.ensures, c.if-has_pick.true)
    (leaves _ _ c.in_ok-check_each-2.was ∙ leaves _ _ c.in_ok-check_each.was)

pub returns : goal.returns
unfolding verdict_of unless node_count edge_count
returns c =
    let a = c.args in
    rw
    (pattern-check a.feed.now a.words.now, ← c.class_count.ensures, ← c.label_count.ensures, ← c.check_each.ensures, ← c.check_each-2.ensures, ← c.has_pick.ensures, c.if-has_pick.false)
    (leaves _ _ c.in_ok-check_each-2.was ∙ leaves _ _ c.in_ok-check_each.was)
