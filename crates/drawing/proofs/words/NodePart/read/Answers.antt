-- `read` of a node meets its contract. Assumes nothing.
use native.Mathlib.Nat.{add-zero}
use lib.Seq.{get_or-drop}
use Rattle.drawing.specs.Drawing.{node_of}
use Rattle.drawing.proofs.words.NodePart.read.Goals as goal

pub returns : goal.returns
unfolding node_of
returns c =
    let at = get_or-drop c.args.at c.args.words.now in
    rw (at 0 0, at 1 0, at 2 0, add-zero)
