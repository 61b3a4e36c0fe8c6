-- `sheet_lines::State::read_header` meets its contract. Assumes nothing.
use Rattle.sheet_text.proofs.Words.{same_is}
use Rattle.sheet_lines.proofs.Steps.{header-read, header-refused}
use borrow.Author.Tests.{not-true, not-false}
use Rattle.sheet_lines.proofs.State.read_header.Goals as goal

pub returns-then-ne : goal.returns-then-ne
returns-then-ne c =
    header-refused c.requires (rw (same_is, c.header.ensures) at (not-true _ (rw c.ne.ensures at c.if-ne.true)))

pub returns : goal.returns
returns c =
    header-read c.requires (rw (same_is, c.header.ensures) at (not-false _ (rw c.ne.ensures at c.if-ne.false)))
