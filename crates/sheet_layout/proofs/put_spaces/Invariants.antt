-- `sheet_layout::put_spaces` meets its contract: each turn writes one space. Assumes nothing.
use Rattle.sheet_layout.proofs.Writing.{Spacing}
use Rattle.sheet_layout.proofs.put_spaces.Given as goal

abbrev pub invariant-loop-i : goal.invariant-loop-i
invariant-loop-i l = Spacing l.initial.out l.out l.at l.n l.i l.k
