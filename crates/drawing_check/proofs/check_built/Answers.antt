-- `drawing_check::check_built` meets its contract: the words of any drawing fit, and are told what they are. Assumes nothing.
use Prim.Native.Nat.{◌≤◌}
use lib.ListN.{length}
use Rattle.limits.specs.Limits.{most_nodes, most_edges}
use Rattle.drawing.specs.declared.Drawing.{Drawing}
use Rattle.drawing.specs.Drawing.{word_count, drawing_words}
use Rattle.drawing.specs.Builder.{view}
use Rattle.drawing.proofs.Builder.{Roomy, roomy, few}
use Rattle.drawing.proofs.Encoding.{words-length, written}
use native.Mathlib.Omega.{arith}
use Rattle.drawing_check.proofs.check_built.Goals as goal

-- any drawing's words fit
most : (d : Drawing) → Roomy d → length (drawing_words (view d)) ≤ word_count most_nodes most_edges
most d r = let f = few d r in let l = words-length (view d) in omega (arith, f.nodes, f.edges)

pub slice_bounds-check_drawing-end : goal.slice_bounds-check_drawing-end
slice_bounds-check_drawing-end c =
    omega (arith, c.write-n.ensures.counted, c.write-n.auto.words, most c.args.d (roomy _ c.well_formed.1.0))

pub returns : goal.returns
returns c =
    rw (written c.write-n.ensures (most c.args.d (roomy _ c.well_formed.1.0))) at c.check_drawing.ensures
