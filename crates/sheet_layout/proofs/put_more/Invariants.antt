-- `sheet_layout::put_more` meets its contract: each turn writes a page. Assumes nothing.
use mathlib.Core.Path.{◌≡◌}
use Prim.Native.Nat.{◌+◌, ◌*◌}
use Rattle.std.specs.Iterator.Adapters.{enumerate_source, enumerate_count}
use Rattle.std.specs.Slice.Iter.{chunks_rest, chunks_size}
use Rattle.limits.specs.Limits.{page_rows}
use Rattle.sheet_text.specs.inner.Parts.{names_of}
use Rattle.sheet_layout.proofs.Paging.{Paging}
use Rattle.sheet_layout.proofs.put_more.Given as goal

abbrev pub invariant-loop-i : goal.invariant-loop-i
invariant-loop-i l =
    let pages = enumerate_source l.i-iterator in
    record {
      can : goal.iterator-loop-i.can_next l.i-iterator;
      ends : goal.iterator-loop-i.is_finite l.i-iterator;
      size : chunks_size pages ≡ page_rows * l.picks;
      paging : Paging l.initial.out l.out l.at (names_of l.names) l.rows l.picks (enumerate_count l.i-iterator + 2) (chunks_rest pages) l.k;
    }
