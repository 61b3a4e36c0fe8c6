-- `sheet_writer::picked_names` meets its contract: the names picked so far, then those that are left. Assumes nothing.
use Rattle.sheet_text.specs.inner.Parts.{names_of}
use Rattle.sheet_writer.proofs.Picked.{Picking}
use Rattle.sheet_writer.proofs.picked_names.Given as goal

abbrev pub invariant-loop-i : goal.invariant-loop-i
invariant-loop-i l = Picking (names_of l.names) l.nodes l.i (names_of l.picked)
