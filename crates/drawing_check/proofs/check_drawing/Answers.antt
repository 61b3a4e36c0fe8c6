-- `drawing_check::check_drawing` meets its contract: a feed that is refused answers alone. Assumes nothing.
use mathlib.Core.Path.{◌∙◌, sym, ap}
use Rattle.answers.specs.Answers.{verdict_of}
use Rattle.answers.proofs.Refusing.{leaves, stands, handed}
use Rattle.feed.proofs.Feed.{feed-accepted}
use Rattle.drawing.specs.Drawing.{check_drawing}
use Rattle.drawing_check.proofs.check_drawing.Goals as goal

pub returns-in_err-check_feed : goal.returns-in_err-check_feed
unfolding check_drawing
returns-in_err-check_feed c =
    handed c.from_residual.result _ c.from_residual.ensures.1 ∙ rw (← c.check_feed.ensures) (stands _ _ c.in_err-check_feed.was)

pub check_words-requires : goal.check_words-requires
unfolding verdict_of
check_words-requires c =
    (feed-accepted _ (sym c.check_feed.ensures ∙ ap verdict_of c.in_ok-check_feed.was)).headed

pub returns : goal.returns
unfolding check_drawing
returns c =
    rw (← c.check_feed.ensures) (c.check_words.ensures ∙ leaves _ _ c.in_ok-check_feed.was)
