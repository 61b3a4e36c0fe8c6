-- `feed::walk_pairs` meets its contract. The loop's invariant: the check from the pair j on is the check of the whole table. Assumes nothing.
use mathlib.Core.Path.{◌∙◌}
use native.Mathlib.Omega.{arith}
use Rattle.answers.specs.Answers.{verdict_of}
use Rattle.answers.proofs.Refusing.{leaves, stands, handed}
use Rattle.feed.proofs.Pairs.{pairs_start, pairs-turn, pairs_end}
use Rattle.feed.proofs.walk_pairs.Goals as goal

pub loop-j-init : goal.loop-j-init
loop-j-init c =
    let a = c.args in (omega arith, pairs_start a.feed.now a.class a.at a.count)

pub returns-in_err-check_pair : goal.returns-in_err-check_pair
returns-in_err-check_pair c =
    let a = c.args in
    let turn = pairs-turn a.feed.now a.class a.at a.count c.loop-j.j (omega arith) (omega arith) c.check_pair.ensures ∙ c.loop-j.invariant.1 in
    handed c.from_residual.result _ c.from_residual.ensures.1 ∙ stands _ _ c.in_err-check_pair.was ∙ turn

pub loop-j-preserved : goal.loop-j-preserved
loop-j-preserved c =
    let a = c.args in
    let turn = pairs-turn a.feed.now a.class a.at a.count c.loop-j.j (omega arith) (omega arith) c.check_pair.ensures ∙ c.loop-j.invariant.1 in
    (omega arith, leaves _ _ c.in_ok-check_pair.was ∙ turn)

pub returns : goal.returns
unfolding verdict_of
returns c =
    let a = c.args in
    pairs_end a.feed.now a.class a.at a.count c.loop-j.j c.loop-j-test.false ∙ c.loop-j.invariant.1
