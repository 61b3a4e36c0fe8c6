-- `Drawing::write` meets its contract: the words are written where they fit. Assumes nothing.
use Prim.Native.Nat.{◌≤◌}
use mathlib.Core.Path.{◌∙◌, sym, ap}
use lib.ListN.{length}
use Rattle.drawing.specs.Drawing.{drawing_words}
use Rattle.drawing.specs.Builder.{view}
use Rattle.tables.proofs.Putting.{put_front}
use Rattle.drawing.proofs.Encoding.{words-length, front_fits, front-short}
use native.Mathlib.Omega.{arith}
use Rattle.drawing.proofs.Drawing.write.Goals as goal

pub returns-then-words-count : goal.returns-then-words-count
returns-then-words-count c =
    let l = words-length (view c.args.self) in
    record { counted = omega (arith, ap length c.nodes.ensures, ap length c.edges.ensures); stands = sym (front-short _ c.args.words.now (omega (arith, c.if-words-count.true, ap length c.nodes.ensures, ap length c.edges.ensures))) }

pub write_all-requires : goal.write_all-requires
write_all-requires c =
    let l = words-length (view c.args.self) in
    omega (arith, c.if-words-count.false, ap length c.nodes.ensures, ap length c.edges.ensures)

pub returns : goal.returns
returns c =
    let p = view c.args.self in
    let l = words-length p in
    let fits : length (drawing_words p) ≤ length c.args.words.now = omega (arith, c.if-words-count.false, ap length c.nodes.ensures, ap length c.edges.ensures) in
    let w = c.write_all.ensures in
    record { counted = omega (arith, w.next); stands = put_front w fits ∙ sym (front_fits _ c.args.words.now fits) }
