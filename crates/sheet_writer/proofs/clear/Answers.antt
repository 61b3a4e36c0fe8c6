-- `sheet_writer::clear` meets its contract. Assumes nothing.
use Rattle.std.proofs.Common.{rules}
use Rattle.sheet_writer.proofs.clear.Goals as goal

pub returns : goal.returns
returns c =
    c.fill.ensures.after (λ y h. search rules)
