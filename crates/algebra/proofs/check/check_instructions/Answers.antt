-- `algebra::check::check_instructions` meets its contract: a feed that is refused answers first; one that is accepted has its two counts.
-- Assumes nothing.
use mathlib.Core.Path.{◌≡◌, ◌∙◌, sym, ap}
use Rattle.answers.specs.Verdict.{accepted, ◌then◌}
use Rattle.feed.specs.Feed.{check_feed}
use Rattle.feed.proofs.Feed.{feed-accepted}
use Rattle.answers.proofs.Refusing.{stands, handed}
use Rattle.algebra.specs.Instructions.{check_instructions}
use Rattle.answers.specs.Answers.{verdict_of}
use Rattle.algebra.specs.inner.Parts.{check_instruction_list}
use Rattle.algebra.proofs.check.check_instructions.Goals as goal

pub returns-in_err-check_feed : goal.returns-in_err-check_feed
unfolding check_instructions
returns-in_err-check_feed c =
    handed c.from_residual.result _ c.from_residual.ensures.1 ∙ rw (← c.check_feed.ensures) (stands _ _ c.in_err-check_feed.was)

pub check_list-requires : goal.check_list-requires
unfolding verdict_of
check_list-requires c =
    (feed-accepted _ (sym c.check_feed.ensures ∙ ap verdict_of c.in_ok-check_feed.was)).headed

pub returns : goal.returns
unfolding check_instructions check_instruction_list ◌then◌ verdict_of
returns c =
    let feed-is-accepted : check_feed c.args.feed.now ≡ accepted = sym c.check_feed.ensures ∙ ap verdict_of c.in_ok-check_feed.was in
    rw (feed-is-accepted) c.check_list.ensures
