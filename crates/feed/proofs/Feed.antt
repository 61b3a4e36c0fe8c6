-- Feed: what the check of a feed says of its tables. Each ascends, has values of at most 65,535 and at most 4,096 pairs; a class has equal
-- sides.
--
-- In order: pairs that were checked; counts that were checked; a table that was checked; what holds of every table of a feed that was
-- accepted; the parts of the check of a feed; where the tables of a class and of a label stand; the tables of a feed; classes and labels.
-- Assumes nothing.
use mathlib.Core.Path.{◌≡◌, refl}
use mathlib.Core.Logic.{◌↔◌, ◌⊎◌, inl, inr, ⊎_elim, ⊎_map}
use mathlib.Core.Bool.{Bool, true, false, not, ◌||◌}
use mathlib.Core.List.Memᴰ
use mathlib.Core.List.Memᴰ.{head as here}
use mathlib.Core.List.Memᴰ.{tail as there}
use mathlib.Core.List.{List, [], ◌∷◌}
use Prim.Native.Nat.{Ordering}
use Prim.Native.Nat.{ℕ, suc, ◌+◌, ◌*◌, ◌-◌, ◌<◌, ◌≤◌}
use native.Mathlib.Omega.{arith}
use native.Mathlib.Decide.{dec_lt}
use lib.ListN.{length, get_or, take, drop, length-take, get_or-eq_default}
use lib.Seq.{get_or-drop}
use lib.Dec.{ltb}
use Rattle.limits.specs.Limits.{most_classes, most_labels, most_table_pairs, largest_object}
use Rattle.tables.specs.declared.Pair.{Pair}
use Rattle.tables.specs.Lists.{◌∈◌, total}
use Rattle.tables.specs.Order.{Ascending, none, more, Table, pair, compare_pair}
use Rattle.answers.specs.Verdict.{accepted}
use Rattle.tables.proofs.Tests.{both_true, eqb_is, leb-is, ltb-is}
use Rattle.tables.proofs.Members.{At, first, later, get_d_at, at_in}
use Rattle.tables.proofs.Orders.{is-less, pairs}
use Rattle.answers.proofs.Verdict.{then-accepted, unless-accepted}
use Rattle.feed.specs.Feed.{class_count, label_count, table_count, counts, body, pairs_of, tables, cut, class_table, label_table, check_counts, above, check_pair, check_pairs, check_tables, check_feed}

-- pairs that were checked
ascending-more : {p q : Pair} {ps : Table} → compare_pair q p ≡ Ordering.lt → Ascending compare_pair (p ∷ ps) → Ascending compare_pair (q ∷ p ∷ ps)
ascending-more {p} {q} l (more h a) = more (λ y m. ⊎_elim (λ e. rw e l) (λ k. pairs.trans q p y l (h y k)) (Memᴰ.cases_cons m)) (more h a)

if-then : (a b : Bool) → (not a || b ≡ true) ↔ (a ≡ true → b ≡ true)
if-then true b = (λ e t. e, λ f. f refl)
if-then false b = (λ e t. cc, λ f. refl)

module _ (is_class : Bool) where
  record Checked (at : ℕ) (before : List Pair) (p : Pair) (ps : Table) : Type 0 where
    small : (p.left ≤ largest_object) × (p.right ≤ largest_object)
    rises : above before p ≡ true
    sides : is_class ≡ true → p.left ≡ p.right
    rest : check_pairs is_class at (p ∷ []) ps ≡ accepted

  checked : (at : ℕ) (before : List Pair) (p : Pair) (ps : Table) → check_pairs is_class at before (p ∷ ps) ≡ accepted → Checked (at + 2) before p ps
  unfolding check_pairs check_pair
  checked at before p ps h =
      let r = simp (then-accepted, unless-accepted, both_true, if-then, leb-is, eqb_is) at h in
      record { small = r.0.0.0; rises = r.0.0.1; sides = r.0.1; rest = r.1 }

  ascends-after : (at : ℕ) (q : Pair) (ps : Table) → check_pairs is_class at (q ∷ []) ps ≡ accepted → Ascending compare_pair (q ∷ ps)
  unfolding above
  ascends-after at q [] h = more (λ y m. absurd (Memᴰ.not-nil m)) none
  ascends-after at q (p ∷ ps) h =
      let c = checked at (q ∷ []) p ps h in
      ascending-more (is-less (compare_pair q p) c.rises) (ascends-after (at + 2) p ps c.rest)

  pairs-ascend : (at : ℕ) (ps : Table) → check_pairs is_class at [] ps ≡ accepted → Ascending compare_pair ps
  pairs-ascend at [] h = none
  pairs-ascend at (p ∷ ps) h = ascends-after (at + 2) p ps (checked at [] p ps h).rest

  pair-checked : {p : Pair} (at : ℕ) (before : List Pair) {ps : Table} → check_pairs is_class at before ps ≡ accepted → p ∈ ps →
      (p.left ≤ largest_object) × (p.right ≤ largest_object) × (is_class ≡ true → p.left ≡ p.right)
  pair-checked at before h (here {x = q} {xs = qs} e) =
      let c = checked at before q qs h in
      rw e (c.small.0, c.small.1, c.sides)
  pair-checked at before h (there {x = q} {xs = qs} m) = pair-checked (at + 2) (q ∷ []) (checked at before q qs h).rest m

-- counts that were checked
count-checked : {n : ℕ} (at : ℕ) {ns : List ℕ} → check_counts at ns ≡ accepted → n ∈ ns → n ≤ most_table_pairs
unfolding check_counts
count-checked at h (here e) = rw e (simp (then-accepted, unless-accepted, leb-is) at h).0
count-checked at h (there m) = count-checked (at + 1) (simp then-accepted at h).1 m

in_cut : {A : Type 0} (ns : List ℕ) (xs : List A) {t : List A} → t ∈ cut ns xs → (n : ℕ) × (n ∈ ns) × (length t ≤ n)
unfolding cut
in_cut [] xs m = absurd (Memᴰ.not-nil m)
in_cut (n ∷ ns) xs (here e) = (n, here refl, rw (e, length-take) (omega arith))
in_cut (n ∷ ns) xs (there m) = let r = in_cut ns (drop n xs) m in (r.0, there r.1, r.2)

-- a table that was checked
table-checked : (c at : ℕ) {ts : List Table} {k : ℕ} {t : Table} → check_tables c at ts ≡ accepted → At ts k t → (b : Bool) × (place : ℕ) × (k < c → b ≡ true) × (check_pairs b place [] t ≡ accepted)
unfolding check_tables
table-checked c at h (first e) = (ltb 0 c, at, (ltb-is 0 c).1, rw e (simp then-accepted at h).0)
table-checked c at h (later {x = s} a) =
    let r = table-checked (c - 1) (at + 2 * length s) (simp then-accepted at h).1 a in
    (r.0, r.1, λ l. r.2 (omega arith), r.3)

-- what holds of every table of a feed that was accepted
pub record Sound (t : Table) : Type 0 where
  pub ascends : Ascending compare_pair t
  pub small : {u v : ℕ} → pair u v ∈ t → (u ≤ largest_object) × (v ≤ largest_object)
  pub short : length t ≤ most_table_pairs

sound_empty : Sound []
sound_empty = record { ascends = none; small = λ m. absurd (Memᴰ.not-nil m); short = omega arith }

-- the parts of the check of a feed
pub record Accepted (feed : List ℕ) : Type 0 where
  pub headed : 2 ≤ length feed
  pub few_classes : class_count feed ≤ most_classes
  pub few_labels : label_count feed ≤ most_labels
  pub counted : 2 + table_count feed ≤ length feed
  pub counts_checked : check_counts 2 (counts feed) ≡ accepted
  pub exact : length feed ≡ 2 + table_count feed + 2 * total (counts feed)
  pub tables_checked : check_tables (class_count feed) (2 + table_count feed) (tables feed) ≡ accepted

pub feed-accepted : (feed : List ℕ) → check_feed feed ≡ accepted → Accepted feed
unfolding check_feed
feed-accepted feed h =
    let a = simp (then-accepted, unless-accepted, leb-is, eqb_is) at h in
    let b = a.1.1 in
    let c = b.1.1 in
    record { headed = a.0; few_classes = a.1.0; few_labels = b.0; counted = b.1.0; counts_checked = c.0; exact = c.1.0; tables_checked = c.1.1 }

-- where the tables of a class and of a label stand, if they are there
get_or-cases : (ts : List Table) (k : ℕ) → (get_or ts k [] ≡ []) ⊎ At ts k (get_or ts k [])
get_or-cases ts k = step (dec_lt k (length ts))
  where
    step : Dec (k < length ts) → (get_or ts k [] ≡ []) ⊎ At ts k (get_or ts k [])
    step (yes l) = inr (get_d_at ts k [] l)
    step (no n) = let h : length ts ≤ k = omega arith in inl (get_or-eq_default ts [] h)

at_take : {A : Type 0} (n : ℕ) (xs : List A) {k : ℕ} {x : A} → At (take n xs) k x → (k < n) × At xs k x
at_take Prim.Native.Nat.zero xs a = elim a [ ]
at_take (suc n) [] a = elim a [ ]
at_take (suc n) (x ∷ xs) (first e) = (omega arith, first e)
at_take (suc n) (x ∷ xs) (later a) = let r = at_take n xs a in (omega (arith, r.0), later r.1)

pub class-at : (feed : List ℕ) (k : ℕ) → (class_table feed k ≡ []) ⊎ ((k < class_count feed) × At (tables feed) k (class_table feed k))
unfolding class_table ⊎_map
class-at feed k = ⊎_map (λ e. e) (at_take (class_count feed) (tables feed)) (get_or-cases (take (class_count feed) (tables feed)) k)

pub label_at : (feed : List ℕ) (k : ℕ) → (label_table feed k ≡ []) ⊎ At (tables feed) (class_count feed + k) (label_table feed k)
unfolding label_table
label_at feed k = rw get_or-drop (get_or-cases (tables feed) (class_count feed + k))

module _ (feed : List ℕ) (ok : check_feed feed ≡ accepted) where
  -- the tables of a feed
  checked-at : {k : ℕ} {t : Table} → At (tables feed) k t → (b : Bool) × (place : ℕ) × (k < class_count feed → b ≡ true) × (check_pairs b place [] t ≡ accepted)
  checked-at a = table-checked (class_count feed) (2 + table_count feed) (feed-accepted feed ok).tables_checked a

  at-sound : {k : ℕ} {t : Table} → At (tables feed) k t → Sound t
  unfolding tables
  at-sound a =
      let r = checked-at a in
      let n = in_cut (counts feed) (pairs_of (body feed)) (at_in a) in
      record {
        ascends = pairs-ascend r.0 r.1 _ r.3;
        small = λ m. let s = pair-checked r.0 r.1 [] r.3 m in (s.0, s.1);
        short = omega (arith, count-checked 2 (feed-accepted feed ok).counts_checked n.1, n.2);
      }

  -- classes and labels
  pub class-sound : (k : ℕ) → Sound (class_table feed k)
  class-sound k = ⊎_elim (λ e. rw e sound_empty) (λ a. at-sound a.1) (class-at feed k)

  pub label-sound : (k : ℕ) → Sound (label_table feed k)
  label-sound k = ⊎_elim (λ e. rw e sound_empty) at-sound (label_at feed k)

  pub class-sides : (k : ℕ) {u v : ℕ} → pair u v ∈ class_table feed k → u ≡ v
  class-sides k m = ⊎_elim
      (λ e. absurd (Memᴰ.not-nil (rw e at m)))
      (λ a. let r = checked-at a.1 in (pair-checked r.0 r.1 [] r.3 m).2 (r.2 a.0))
      (class-at feed k)

  pub class-ascends : (k : ℕ) → Ascending compare_pair (class_table feed k)
  class-ascends k = (class-sound k).ascends

  pub label-ascends : (k : ℕ) → Ascending compare_pair (label_table feed k)
  label-ascends k = (label-sound k).ascends
