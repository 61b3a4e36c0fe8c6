-- `feed::check_pair` meets its contract: 3 is tested before 4. Assumes nothing.
use mathlib.Core.Path.{◌≡◌, ◌∙◌, ap}
use Prim.Native.Nat.{◌+◌, ◌*◌}
use Rattle.answers.specs.Verdict.{Verdict}
use Rattle.feed.specs.Feed.{check_pair}
use Rattle.answers.specs.Answers.{verdict_of}
use Rattle.feed.specs.inner.Parts.{before, pair_from}
use Rattle.feed.proofs.Pairs.{not-ordered, not-even, pair-passes}
use Rattle.feed.proofs.check_pair.Goals as goal

pub returns-then-ordered-even : goal.returns-then-ordered-even
unfolding verdict_of
returns-then-ordered-even c =
    let of_words : (v : Verdict) →
    let a = c.args in
    let i = a.at + 2 * a.j in
    let ps = before a.feed.now a.at a.j in
    v ≡ check_pair a.class i ps c.pair_from-p.result → v ≡ check_pair a.class i ps (pair_from a.feed.now i) =
    λ _ e. let a = c.args in e ∙ ap (check_pair a.class (a.at + 2 * a.j) (before a.feed.now a.at a.j)) c.pair_from-p.ensures in
    of_words _ (pair-passes _ _ _ _ _ c.is_ordered-ordered.ensures c.if-ordered-even.true)

pub returns-then-ordered : goal.returns-then-ordered
unfolding verdict_of
returns-then-ordered c =
    let of_words : (v : Verdict) →
    let a = c.args in
    let i = a.at + 2 * a.j in
    let ps = before a.feed.now a.at a.j in
    v ≡ check_pair a.class i ps c.pair_from-p.result → v ≡ check_pair a.class i ps (pair_from a.feed.now i) =
    λ _ e. let a = c.args in e ∙ ap (check_pair a.class (a.at + 2 * a.j) (before a.feed.now a.at a.j)) c.pair_from-p.ensures in
    of_words _ (not-even _ _ _ _ _ c.is_ordered-ordered.ensures c.if-ordered-even.false c.if-ordered.true)

pub returns : goal.returns
unfolding verdict_of
returns c =
    let of_words : (v : Verdict) →
    let a = c.args in
    let i = a.at + 2 * a.j in
    let ps = before a.feed.now a.at a.j in
    v ≡ check_pair a.class i ps c.pair_from-p.result → v ≡ check_pair a.class i ps (pair_from a.feed.now i) =
    λ _ e. let a = c.args in e ∙ ap (check_pair a.class (a.at + 2 * a.j) (before a.feed.now a.at a.j)) c.pair_from-p.ensures in
    of_words _ (not-ordered _ _ _ _ _ c.is_ordered-ordered.ensures c.if-ordered.false)
