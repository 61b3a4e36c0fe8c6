-- `sheet_layout::put_column` meets its contract: spaces, then the field's text. Assumes nothing.
use borrow.Author.Rules.{rules}
use Rattle.sheet_layout.proofs.Writing.{column-put}
use Rattle.sheet_layout.proofs.put_column.Goals as goal

pub returns : goal.returns
returns g c =
    search (rules, column-put)
