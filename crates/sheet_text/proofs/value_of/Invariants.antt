-- `sheet_text::value_of` meets its contract. The loop's invariant: n is the value of the digits passed. Assumes nothing.
use Rattle.sheet_text.proofs.Words.{Valuing}
use Rattle.sheet_text.proofs.value_of.Given as goal

abbrev pub invariant-loop-b : goal.invariant-loop-b
invariant-loop-b l = Valuing l.text l.n l.b-index
