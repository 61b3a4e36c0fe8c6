-- `words::read_drawing` meets its contract: the length that was checked gives the room and the words. Assumes nothing.
use Prim.Native.Nat.{ℕ, ◌*◌}
use native.Mathlib.Omega.{arith}
use mathlib.Core.Path.{◌≡◌, sym}
use mathlib.Core.List.{List}
use lib.ListN.{length, take}
use lib.Seq.{drop-drop, length-take-le}
use Rattle.drawing.specs.declared.Drawing.{Drawing}
use Rattle.drawing.specs.Drawing.{head_width, node_width, node_count, edge_count, pattern_of, check_length}
use Rattle.drawing.specs.Builder.{empty_drawing}
use Rattle.answers.specs.Verdict.{accepted}
use Rattle.drawing.proofs.Encoding.{lengths}
use Rattle.drawing.proofs.Builder.{empty-roomy, read-words}
use Rattle.drawing.proofs.words.read_drawing.Goals as goal

-- the arrays have a place for each
record Places (ws : List ℕ) (d : Drawing) : Type 0 where
  nodes : length (take (node_count ws) d.nodes) ≡ node_count ws
  edges : length (take (edge_count ws) d.edges) ≡ edge_count ws

places : (ws : List ℕ) (d : Drawing) → check_length ws ≡ accepted → d ≡ empty_drawing → Places ws d
places ws d h e =
    let l = lengths ws h in
    let r = empty-roomy in
    rw e (record {
      nodes = length-take-le (node_count ws) empty_drawing.nodes (omega (arith, l.few_nodes, r.nodes));
      edges = length-take-le (edge_count ws) empty_drawing.edges (omega (arith, l.few_edges, r.edges));
    })

pub bounds-words-0 : goal.bounds-words-0
bounds-words-0 c =
    let l = lengths c.args.words.now c.requires in omega (arith, l.headed)

pub bounds-words-1 : goal.bounds-words-1
bounds-words-1 c =
    let l = lengths c.args.words.now c.requires in omega (arith, l.headed)

pub slice_bounds-nodes-end : goal.slice_bounds-nodes-end
unfolding node_count
slice_bounds-nodes-end c =
    let l = lengths c.args.words.now c.requires in omega (arith, l.few_nodes)

pub slice_bounds-edges-end : goal.slice_bounds-edges-end
unfolding edge_count
slice_bounds-edges-end c =
    let l = lengths c.args.words.now c.requires in omega (arith, l.few_edges)

pub slice_bounds-read_each-end : goal.slice_bounds-read_each-end
unfolding node_count
slice_bounds-read_each-end c = sym (places _ _ c.requires c.empty.ensures).nodes

pub read_each-requires : goal.read_each-requires
unfolding node_count edge_count
read_each-requires c =
    let l = lengths c.args.words.now c.requires in
    rw (places _ _ c.requires c.empty.ensures).nodes (omega (arith, l.exact))

pub slice_bounds-read_each-end-2 : goal.slice_bounds-read_each-end-2
unfolding edge_count
slice_bounds-read_each-end-2 c = sym (places _ _ c.requires c.empty.ensures).edges

pub read_each-requires-2 : goal.read_each-requires-2
unfolding node_count edge_count
read_each-requires-2 c =
    let l = lengths c.args.words.now c.requires in
    rw (places _ _ c.requires c.empty.ensures).edges (omega (arith, l.exact))

pub returns : goal.returns
unfolding node_count edge_count pattern_of
returns c =
    let ws = c.args.words.now in
    let p = places _ _ c.requires c.empty.ensures in
    rw (c.read_each.ensures, c.read_each-2.ensures, p.nodes, p.edges, ← drop-drop (node_width * node_count ws) head_width ws) (read-words ws c.requires _ _)
