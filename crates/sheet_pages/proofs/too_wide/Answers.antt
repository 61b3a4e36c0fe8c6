-- `sheet_pages::too_wide` meets its contract: 15 after all checks of the drawing. Assumes nothing.
use mathlib.Core.Path.{sym, ap, ◌∙◌}
use Rattle.answers.specs.Verdict.{Verdict, refused, ◌then◌}
use Rattle.answers.specs.Answers.{verdict_of}
use Rattle.answers.proofs.Verdict.{refused-first}
use Rattle.answers.proofs.Refusing.{refuses}
use Rattle.sheet_pages.proofs.too_wide.Goals as goal

pub returns-in-Ok : goal.returns-in-Ok
unfolding verdict_of ◌then◌
returns-in-Ok c =
    ap (λ (v : Verdict). v then refused 15 0) c.in-Ok.ensures

pub returns-in-Err : goal.returns-in-Err
unfolding verdict_of
returns-in-Err c =
    sym (refused-first _ (refused 15 0) (refuses c.in-Err.refusal)) ∙ ap (λ (v : Verdict). v then refused 15 0) c.in-Err.ensures
