-- `feed::passes` meets its contract: a class's pairs are as they must be and even, a label's as they must be. Assumes nothing.
use Rattle.feed.proofs.Passing.{labels-pass, classes-pass}
use Rattle.feed.proofs.passes.Goals as goal

pub returns-then-class : goal.returns-then-class
returns-then-class c =
    classes-pass _ _ _ c.requires.inside c.if-class.true c.all_ordered-ordered.ensures c.all_even.ensures

pub returns : goal.returns
returns c =
    labels-pass _ _ _ c.requires.inside c.if-class.false c.all_ordered-ordered.ensures
