-- `sheet_reader::read_sheet` meets its contract. Assumes nothing.
use Rattle.std.specs.Result.{IfOk, IsErr}
use Rattle.std.specs.Prelude.{Result, Ok, Err}
use mathlib.Core.Path.{◌∙◌}
use Rattle.std.proofs.lemmas.Bool.{false≢true}
use Rattle.answers.specs.Answers.{verdict_of}
use Rattle.answers.proofs.Refusing.{handed}
use Rattle.sheet_reader.proofs.Words.{feedable, sheet-given}
use Rattle.sheet_reader.proofs.read_sheet.Goals as goal

none-given : {T E : Type 0} (r : Result T E) (P : T → Type 0) → IsErr r → IfOk r P
none-given (Ok x) P h = absurd (false≢true h)
none-given (Err e) P h = tt

pub returns-in_err-read_lines : goal.returns-in_err-read_lines
unfolding verdict_of
returns-in_err-read_lines c =
    let g = c.in_err-read_lines.ensures in
    record { verdict = handed _ _ c.from_residual.ensures.1 ∙ g.verdict; given = none-given _ _ c.from_residual.ensures.0 }

pub put_feed-n-requires : goal.put_feed-n-requires
put_feed-n-requires c =
    let g = c.in_ok-read_lines.ensures in
    feedable g.whole _ c.requires

pub returns : goal.returns
unfolding verdict_of
returns c =
    let g = c.in_ok-read_lines.ensures in
    record { verdict = g.verdict; given = sheet-given g.whole c.requires c.put_feed-n.ensures }
