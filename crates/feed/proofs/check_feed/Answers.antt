-- `feed::check_feed` meets its contract: the tests are taken in document 01's order, each answer at its own return. Assumes nothing.
use mathlib.Core.Path.{◌∙◌, sym}
use Prim.Native.Nat.{◌*◌, ◌≤◌}
use native.Mathlib.Omega.{arith}
use Rattle.limits.specs.Limits.{most_tables, most_table_pairs}
use Rattle.feed.specs.Feed.{class_count, label_count, table_count}
use Rattle.answers.specs.Answers.{verdict_of}
use Rattle.answers.proofs.Refusing.{handed}
use Rattle.feed.proofs.Checks.{Head, no-head, many-classes, many-labels, no-counts, count-over, wrong-length, right-length, sum-small, is-exact}
use Rattle.feed.proofs.check_feed.Goals as goal

pub returns-then-feed-lt2 : goal.returns-then-feed-lt2
unfolding verdict_of
returns-then-feed-lt2 c =
    no-head c.args.feed.now c.if-feed-lt2.true

pub returns-then-classes-gt-CLASSES : goal.returns-then-classes-gt-CLASSES
unfolding verdict_of class_count
returns-then-classes-gt-CLASSES c =
    many-classes c.args.feed.now (omega arith) (omega arith)

pub returns-then-labels-gt-LABELS : goal.returns-then-labels-gt-LABELS
unfolding verdict_of class_count label_count
returns-then-labels-gt-LABELS c =
    many-labels c.args.feed.now (omega arith) (omega arith) (omega arith)

pub returns-then-feed-head : goal.returns-then-feed-head
unfolding verdict_of class_count label_count table_count
returns-then-feed-head c =
    no-counts c.args.feed.now (omega arith) (omega arith) (omega arith) (omega arith)

pub sum_counts-requires : goal.sum_counts-requires
unfolding class_count label_count table_count
sum_counts-requires c =
    omega arith

pub overflow_mul-sum : goal.overflow_mul-sum
unfolding class_count label_count table_count
overflow_mul-sum c =
    let head : Head c.args.feed.now = record { headed = omega arith; few_classes = omega arith; few_labels = omega arith; counted = omega arith } in
    let summed = sym c.in_ok-sum.was ∙ c.sum_counts.ensures in
    let small : c.in_ok-sum.sum ≤ most_tables * most_table_pairs = sum-small _ (head) (summed) in
    omega (arith, small)

pub overflow_add-head-3 : goal.overflow_add-head-3
unfolding class_count label_count table_count
overflow_add-head-3 c =
    let head : Head c.args.feed.now = record { headed = omega arith; few_classes = omega arith; few_labels = omega arith; counted = omega arith } in
    let summed = sym c.in_ok-sum.was ∙ c.sum_counts.ensures in
    let small : c.in_ok-sum.sum ≤ most_tables * most_table_pairs = sum-small _ (head) (summed) in
    omega (arith, small)

pub returns-then-feed-head-2 : goal.returns-then-feed-head-2
unfolding verdict_of class_count label_count table_count
returns-then-feed-head-2 c =
    let head : Head c.args.feed.now = record { headed = omega arith; few_classes = omega arith; few_labels = omega arith; counted = omega arith } in
    let summed = sym c.in_ok-sum.was ∙ c.sum_counts.ensures in
    wrong-length _ (head) (summed) (λ e. omega (arith, c.if-feed-head-2.true))

pub check_tables-requires : goal.check_tables-requires
unfolding class_count label_count table_count
check_tables-requires c =
    let head : Head c.args.feed.now = record { headed = omega arith; few_classes = omega arith; few_labels = omega arith; counted = omega arith } in
    let summed = sym c.in_ok-sum.was ∙ c.sum_counts.ensures in
    is-exact _ (head) (summed) (omega arith)

pub returns-in_err-sum : goal.returns-in_err-sum
unfolding verdict_of class_count label_count table_count
returns-in_err-sum c =
    let head : Head c.args.feed.now = record { headed = omega arith; few_classes = omega arith; few_labels = omega arith; counted = omega arith } in
    handed c.from_residual.result _ c.from_residual.ensures.1 ∙ count-over _ head (sym c.in_err-sum.was ∙ c.sum_counts.ensures)

pub returns : goal.returns
unfolding class_count label_count table_count
returns c =
    let head : Head c.args.feed.now = record { headed = omega arith; few_classes = omega arith; few_labels = omega arith; counted = omega arith } in
    let summed = sym c.in_ok-sum.was ∙ c.sum_counts.ensures in
    c.check_tables.ensures ∙ right-length _ (head) (summed) (omega arith)
