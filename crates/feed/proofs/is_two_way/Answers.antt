-- `feed::is_two_way` meets its contract: the count words of the labels come after those of the classes. Assumes nothing.
use mathlib.Core.Path.{◌∙◌, sym, ap}
use Prim.Native.Nat.{ℕ, ◌+◌}
use native.Mathlib.Omega.{arith}
use lib.ListN.{get_or}
use Rattle.feed.specs.Feed.{class_count, table_count, is_marked}
use Rattle.feed.proofs.Feed.{feed-accepted}
use Rattle.feed.proofs.Words.{mark-at}
use Rattle.feed.proofs.is_two_way.Goals as goal

pub word-requires : goal.word-requires
word-requires c =
    let ok = feed-accepted _ c.requires.checked in omega arith

pub overflow_add-word-2 : goal.overflow_add-word-2
unfolding class_count table_count
overflow_add-word-2 c =
    let ok = feed-accepted _ c.requires.checked in omega arith

pub offset_bounds-feed-word : goal.offset_bounds-feed-word
unfolding class_count table_count
offset_bounds-feed-word c =
    let ok = feed-accepted _ c.requires.checked in omega arith

pub bounds-feed-word : goal.bounds-feed-word
unfolding class_count table_count
bounds-feed-word c =
    let ok = feed-accepted _ c.requires.checked in omega arith

pub returns : goal.returns
unfolding class_count table_count
returns c =
    let feed = c.args.feed.now in
    let k = c.args.k in
    c.is_marked.ensures ∙ ap (λ (n : ℕ). is_marked (get_or feed (2 + n + k) 0)) c.word.ensures ∙ sym (mark-at feed k (omega (arith, c.requires.there)))
