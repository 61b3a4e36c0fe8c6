-- `words::write_all` meets its contract: two counts, the nodes, the edges. Assumes nothing.
use mathlib.Core.List.{List, flat_map}
use Prim.Native.Nat.{◌+◌}
use Rattle.drawing.specs.declared.Node.{Node}
use Rattle.drawing.specs.declared.Edge.{Edge}
use Rattle.drawing.specs.Drawing.{Pattern, node_words, edge_words, drawing_words}
use Rattle.drawing.specs.Builder.{view}
use Rattle.tables.proofs.Putting.{put_then, put_as, put-size}
use Rattle.drawing.proofs.Builder.{roomy, few}
use Rattle.drawing.proofs.Encoding.{words-parts}
use mathlib.Core.Path.{◌≡◌, ap}
use lib.ListN.{length, length-append}
use native.Mathlib.Omega.{arith}
use Rattle.drawing.proofs.words.write_all.Goals as goal

pub overflow_cast-nodes : goal.overflow_cast-nodes
overflow_cast-nodes c =
    let f = few c.args.d (roomy _ c.well_formed.1.0) in omega (arith, f.nodes, ap length c.nodes-nodes.ensures)

pub overflow_cast-edges : goal.overflow_cast-edges
overflow_cast-edges c =
    let f = few c.args.d (roomy _ c.well_formed.1.0) in omega (arith, f.edges, ap length c.edges-edges.ensures)

-- so many words in all, of the nodes and the edges that are lent
whole : (p : Pattern) (vs : List Node) (xs : List Edge) → vs ≡ p.nodes → xs ≡ p.edges → 2 + length (flat_map node_words vs) + length (flat_map edge_words xs) ≡ length (drawing_words p)
unfolding drawing_words
whole p vs xs e f = rw (e, f) (let a = length-append (flat_map node_words p.nodes) (flat_map edge_words p.edges) in omega arith)

pub put_words-head-requires : goal.put_words-head-requires
put_words-head-requires c =
    let l = whole _ _ _ c.nodes-nodes.ensures c.edges-edges.ensures in omega (arith, c.requires)

pub write_each-next-requires : goal.write_each-next-requires
write_each-next-requires c =
    let l = whole _ _ _ c.nodes-nodes.ensures c.edges-edges.ensures in
    omega (arith, c.requires, c.put_words-head.ensures.next, put-size c.put_words-head.ensures)

pub write_each-requires : goal.write_each-requires
write_each-requires c =
    let l = whole _ _ _ c.nodes-nodes.ensures c.edges-edges.ensures in
    let w = c.write_each-next.ensures in
    omega (arith, c.requires, c.put_words-head.ensures.next, put-size c.put_words-head.ensures, w.next, put-size w)

pub returns : goal.returns
returns c =
    let n = c.nodes-nodes.ensures in
    let e = c.edges-edges.ensures in
    let head = rw (n, e) at c.put_words-head.ensures in
    let some = rw n at c.write_each-next.ensures in
    let rest = rw e at c.write_each.ensures in
    put_as (words-parts (view c.args.d)) (put_then (put_then head some) rest)
