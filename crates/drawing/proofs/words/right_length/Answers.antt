-- `words::right_length` meets its contract: each answer by the tests that led to it. Assumes nothing.
use borrow.Author.Tests.{le-leb, lt-leb}
use Rattle.answers.specs.Verdict.{unless, ◌then◌}
use Rattle.drawing.specs.Drawing.{node_count, edge_count, check_length}
use Rattle.drawing.proofs.words.right_length.Goals as goal

pub returns-then-words-lt-HEAD_WORDS : goal.returns-then-words-lt-HEAD_WORDS
unfolding check_length node_count edge_count unless ◌then◌
returns-then-words-lt-HEAD_WORDS c =
    simp (lt-leb _ _ c.if-words-lt-HEAD_WORDS.true)

pub returns-then-n-lt1 : goal.returns-then-n-lt1
unfolding check_length node_count edge_count unless ◌then◌
returns-then-n-lt1 c =
    simp (le-leb _ _ c.if-words-lt-HEAD_WORDS.false, lt-leb _ _ c.if-n-lt1.true)

pub returns-then-n-gt-NODES : goal.returns-then-n-gt-NODES
unfolding check_length node_count edge_count unless ◌then◌
returns-then-n-gt-NODES c =
    simp (le-leb _ _ c.if-words-lt-HEAD_WORDS.false, le-leb _ _ c.if-n-lt1.false, lt-leb _ _ c.if-n-gt-NODES.true)

pub returns-then-e-gt-EDGES : goal.returns-then-e-gt-EDGES
unfolding check_length node_count edge_count unless ◌then◌
returns-then-e-gt-EDGES c =
    simp (le-leb _ _ c.if-words-lt-HEAD_WORDS.false, le-leb _ _ c.if-n-lt1.false, le-leb _ _ c.if-n-gt-NODES.false, lt-leb _ _ c.if-e-gt-EDGES.true)

pub returns : goal.returns
unfolding check_length node_count edge_count unless ◌then◌
returns c =
    rw (le-leb _ _ c.if-words-lt-HEAD_WORDS.false, le-leb _ _ c.if-n-lt1.false, le-leb _ _ c.if-n-gt-NODES.false, le-leb _ _ c.if-e-gt-EDGES.false)
