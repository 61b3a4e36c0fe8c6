-- `feed::rises` meets its contract: the first pair has none before it, any other the pair two words before. Assumes nothing.
use mathlib.Core.Path.{◌∙◌, ap}
use Rattle.tables.specs.declared.Pair.{Pair}
use Rattle.tables.specs.Order.{compare_pair, is_less}
use Rattle.tables.proofs.Pairs.{below}
use Rattle.feed.proofs.Pairs.{above-none, above-one}
use Rattle.feed.proofs.rises.Goals as goal

pub returns-then-j-eq0 : goal.returns-then-j-eq0
returns-then-j-eq0 c =
    let a = c.args in above-none a.feed.now a.at a.j a.p c.if-j-eq0.true

pub returns : goal.returns
returns c =
    let a = c.args in
    c.lt.ensures
    ∙ below c.pair_from.result a.p
    ∙ ap (λ (q : Pair). is_less (compare_pair q a.p)) c.pair_from.ensures
    ∙ above-one a.feed.now a.at a.j a.p c.if-j-eq0.false
