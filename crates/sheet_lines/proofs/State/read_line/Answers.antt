-- `sheet_lines::State::read_line` meets its contract. Assumes nothing.
use borrow.Author.Tests.{eq-eqb, eqb-true}
use lib.ListN.{length}
use Rattle.tables.proofs.Tests.{true-not-false}
use Rattle.sheet_lines.proofs.Steps.{taken_by, from-header, from-end, from-values}
use Rattle.sheet_lines.proofs.State.read_line.Goals as goal

pub returns-then-not-self : goal.returns-then-not-self
returns-then-not-self c =
    taken_by (from-header c.if-not-self.true) c.read_header.ensures

pub returns-then-is_empty : goal.returns-then-is_empty
returns-then-is_empty c =
    taken_by (from-end c.if-not-self.false (eqb-true (length c.args.line.now) 0 (rw c.is_empty.ensures at c.if-is_empty.true))) c.end_section.ensures

pub returns : goal.returns
returns c =
    taken_by (from-values c.if-not-self.false (λ z. true-not-false (eq-eqb (length c.args.line.now) 0 z) (rw c.is_empty.ensures at c.if-is_empty.false))) c.read_values.ensures
