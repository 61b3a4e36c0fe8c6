-- `sheet_listing::put_line` meets its contract: each turn writes one field. Assumes nothing.
use mathlib.Core.List.{map}
use lib.Dec.{eqb}
use lib.ListN.{drop}
use Rattle.sheet_writer.proofs.Putting.{Putting}
use Rattle.sheet_listing.specs.Listing.{line}
use Rattle.sheet_listing.proofs.Lines.{line_from}
use Rattle.sheet_listing.proofs.put_line.Given as goal

abbrev pub invariant-loop-i : goal.invariant-loop-i
invariant-loop-i g l =
    let text = g.T.Field.text in
    Putting l.initial.out l.out l.at (line (map text l.fields)) (line_from (eqb l.i 0) (map text (drop l.i l.fields))) l.k
