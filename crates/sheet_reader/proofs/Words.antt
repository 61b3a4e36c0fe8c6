-- Words: what the reader leaves is what the definitions give for the sheet. Assumes nothing.
use mathlib.Core.Path.{◌≡◌, refl, ◌∙◌, sym}
use mathlib.Core.List.{List}
use Prim.Native.Nat.{ℕ, ◌<◌, ◌≤◌}
use native.Mathlib.Omega.{arith}
use borrow.Author.Tests.{lt-leb}
use lib.ListN.{length}
use Rattle.limits.specs.Limits.{most_bytes}
use lib.Seq.{take-append_seam}
use Rattle.tables.specs.inner.Words.{Put}
use Rattle.tables.proofs.Putting.{put_front, put-size}
use Rattle.feed.specs.Feed.{feed_words}
use Rattle.drawing.proofs.Builder.{shown-nodes}
use Rattle.sheet_lines.specs.declared.State.{State}
use Rattle.sheet_lines.specs.inner.State.{tables_read, view_of}
use Rattle.sheet_reader.specs.Sheet.{breach, read_sheet, tables_of, labels_of, feed_of}
use Rattle.sheet_reader.specs.inner.Answers.{Whole, feed_room, Feedable, Counted}
use Rattle.sheet_reader.proofs.Sizes.{feed-size}

pub sheet-long : (s : List ℕ) → most_bytes < length s → read_sheet s ≡ breach 0
unfolding read_sheet
sheet-long s h = rw (lt-leb (length s) most_bytes h)

module _ {s : List ℕ} {x : State} (g : Whole s x) where
  pub feedable : (feed : List ℕ) → feed_room ≤ length feed → Feedable feed x.classes x.labels
  feedable feed h = record { room = h; classes = g.fine.classes; labels = g.fine.labels; few = g.few }

  pub sheet-given : {feed feed' : List ℕ} {n : ℕ} → feed_room ≤ length feed → Put feed feed' 0 (feed_words (tables_of (tables_read x.classes)) (labels_of (tables_read x.labels))) n →
      Counted s feed' (record { feed = n; nodes = x.nodes; drawing = x.drawing })
  unfolding view_of feed_of
  sheet-given {feed} {n = n} h p =
      let f = feedable feed h in
      let size = feed-size f in
      let front = put_front p (omega (arith, f.room)) in
      let count : n ≡ length (feed_words (tables_of (tables_read x.classes)) (labels_of (tables_read x.labels))) = omega (arith, p.next) in
      let d = shown-nodes x.drawing (record { nodes = g.fine.node_room; edges = g.fine.edge_room }) (omega (arith, g.fine.drawn, g.fine.nodes)) in
      record {
        shown = record {
          reading = view_of x;
          outcome = g.shown;
          feeds = rw (front, count) (take-append_seam _ _);
          fits = omega (arith, p.next, put-size p, f.room);
          draws = refl;
          names = refl;
          few = g.fine.nodes;
          drawn = sym d ∙ g.fine.drawn;
        };
        counted = g.fine.drawn;
      }
