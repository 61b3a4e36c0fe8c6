-- `algebra::check::check_words` meets its contract: each shape by its own words. Assumes nothing.
use Rattle.answers.proofs.Verdict.{then-none}
use Rattle.algebra.specs.Instructions.{check_word, check_words}
use Rattle.algebra.proofs.check.check_words.Goals as goal

pub returns-in-Class : goal.returns-in-Class
unfolding check_words check_word
returns-in-Class c =
    rw (c.in-Class.is, ← c.class_count.ensures) c.one_operand.ensures

pub returns-in-Label : goal.returns-in-Label
unfolding check_words check_word
returns-in-Label c =
    rw (c.in-Label.is, ← c.label_count.ensures) c.one_operand-in-Label.ensures

pub returns-in-One : goal.returns-in-One
unfolding check_words check_word
returns-in-One c =
    rw c.in-One.is c.one_operand-in-One.ensures

pub returns-in-Two : goal.returns-in-Two
unfolding check_words check_word
returns-in-Two c =
    rw c.in-Two.is c.two_operands.ensures

pub returns-in-Value : goal.returns-in-Value
unfolding check_words check_word
returns-in-Value c =
    rw (c.in-Value.is, then-none) c.check_operand.ensures
