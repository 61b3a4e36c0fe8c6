-- Checks: the check of the counts, of the tables and of a whole feed, in the steps in which the code takes them.
--
-- In order: the counts, from one of them on; the answer for the counts; what counts that were accepted are; the tables, from one of them on;
-- classes, then labels; the first two words; the whole. Assumes nothing.
use mathlib.Core.Path.{◌≡◌, refl, sym, ◌∙◌, ap}
use mathlib.Core.Bool.{Bool, true, false}
use mathlib.Core.List.{List, [], ◌∷◌, ◌++◌, map}
use Prim.Native.Nat.{ℕ, zero, suc, ◌+◌, ◌*◌, ◌-◌, ◌<◌, ◌≤◌}
use native.Mathlib.Nat.{zero-add, add-zero, add_assoc}
use native.Mathlib.Decide.{dec_lt}
use native.Mathlib.Omega.{arith}
use lib.Dec.{eqb, leb, ltb}
use lib.ListN.{length, get_or, take, drop, drop_of_length-le, take-append-drop}
use lib.Seq.{length-take-le}
use borrow.Author.Tests.{lt-ltb, le-ltb, lt-leb, le-leb, eq-eqb, ne_eqb}
use Rattle.limits.specs.Limits.{most_classes, most_labels, most_tables, most_table_pairs}
use Rattle.answers.specs.Verdict.{Verdict, accepted, refused, unless, ◌then◌, is_accepted}
use Rattle.tables.specs.Lists.{total}
use Rattle.tables.specs.Order.{Table}
use Rattle.tables.proofs.Tests.{leb-is}
use Rattle.answers.proofs.Verdict.{then-accepted, then-assoc, unless-accepted, refused-first}
use Rattle.answers.proofs.Refusing.{refuses}
use Rattle.feed.specs.Feed.{class_count, label_count, table_count, counts, body, pairs_of, cut, tables, check_counts, check_pairs, check_tables, check_feed}
use Rattle.feed.specs.inner.Parts.{counts_found, Exact}
use Rattle.std.specs.Prelude.{Result, Ok, Err}
use Rattle.answers.specs.Answers.{refusal_of}
use Rattle.answers.specs.declared.Refusal.{Refusal}
use Rattle.answers.specs.declared.Refusal.TheVariants.{Ceiling}
use Rattle.feed.proofs.Words.{length-table, length-counts, counts-next, tables_from, tables-from-start, tables-next, Ends, ends-inside}

-- the check of the counts, from the count k on, with the sum of those before it
abbrev pub counts_left : List ℕ → ℕ → ℕ → Result ℕ Refusal
counts_left feed sum k = counts_found (check_counts (2 + k) (drop k (counts feed))) (sum + total (drop k (counts feed)))

pub counts_start : (feed : List ℕ) → counts_left feed 0 0 ≡ counts_found (check_counts 2 (counts feed)) (total (counts feed))
counts_start feed = rw zero-add

module _ (feed : List ℕ) (counted : 2 + table_count feed ≤ length feed) (sum k : ℕ) where
  pub counts-over : k < table_count feed → most_table_pairs < get_or (counts feed) k 0 → Err (Ceiling (2 + k)) ≡ counts_left feed sum k
  unfolding check_counts unless ◌then◌ counts_found
  counts-over h l = rw (counts-next feed counted k h, lt-leb (get_or (counts feed) k 0) most_table_pairs l)

  pub counts-pass : k < table_count feed → get_or (counts feed) k 0 ≤ most_table_pairs → counts_left feed (sum + get_or (counts feed) k 0) (k + 1) ≡ counts_left feed sum k
  unfolding check_counts unless ◌then◌ total
  counts-pass h l =
      let e : 2 + k + 1 ≡ 2 + (k + 1) = omega arith in
      rw (counts-next feed counted k h, le-leb (get_or (counts feed) k 0) most_table_pairs l, e, add_assoc)

  pub counts_end : table_count feed ≤ k → Ok sum ≡ counts_left feed sum k
  unfolding check_counts counts_found total
  counts_end h =
      let l : length (counts feed) ≤ k = rw (length-counts feed counted) h in
      rw (drop_of_length-le (counts feed) l, add-zero)

-- the answer for the counts, and their check
pub counts-accepted : (v : Verdict) (t : ℕ) {s : ℕ} → Ok s ≡ counts_found v t → (v ≡ accepted) × (s ≡ t)
unfolding counts_found
counts-accepted accepted t e = (refl, cc)
counts-accepted (refused n p) t e = (cc, cc)

pub counts-refused : (at : ℕ) (ns : List ℕ) (t : ℕ) {r : Refusal} → Err r ≡ counts_found (check_counts at ns) t → refusal_of r ≡ check_counts at ns
unfolding check_counts counts_found unless ◌then◌
counts-refused at [] t e = cc
counts-refused at (n ∷ ns) t {r} e = step (leb n most_table_pairs) (counts-refused (at + 1) ns t) e
  where
    step : (b : Bool) → (Err r ≡ counts_found (check_counts (at + 1) ns) t → refusal_of r ≡ check_counts (at + 1) ns) →
        Err r ≡ counts_found (unless b 2 at then check_counts (at + 1) ns) t → refusal_of r ≡ unless b 2 at then check_counts (at + 1) ns
    step true f d = f d
    step false f d = let q : r ≡ Ceiling at = cc in rw q

-- counts that were accepted are small, and so is their sum
pub counts-small : (at : ℕ) (ns : List ℕ) → check_counts at ns ≡ accepted → total ns ≤ most_table_pairs * length ns
unfolding check_counts total
counts-small at [] h = omega arith
counts-small at (n ∷ ns) h =
    let r = simp (then-accepted, unless-accepted, leb-is) at h in
    let l = counts-small (at + 1) ns r.1 in
    omega (arith, r.0)

pub count_small : (at : ℕ) (ns : List ℕ) (k : ℕ) → check_counts at ns ≡ accepted → get_or ns k 0 ≤ most_table_pairs
unfolding check_counts
count_small at [] k h = omega arith
count_small at (n ∷ ns) zero h = (simp (then-accepted, unless-accepted, leb-is) at h).0
count_small at (n ∷ ns) (suc k) h = count_small (at + 1) ns k (simp then-accepted at h).1

-- the check of the tables, from the table k on, which starts at the word i
abbrev pub tables_left : List ℕ → ℕ → ℕ → Verdict
tables_left feed k i = check_tables (class_count feed - k) i (tables_from feed k i)

class-left : (c k : ℕ) → ltb 0 (c - k) ≡ ltb k c
class-left c k = step (dec_lt k c)
  where
    step : Dec (k < c) → ltb 0 (c - k) ≡ ltb k c
    step (yes h) = lt-ltb 0 (c - k) (omega arith) ∙ sym (lt-ltb k c h)
    step (no n) = le-ltb 0 (c - k) (omega arith) ∙ sym (le-ltb k c (omega arith))

pub tables_start : (feed : List ℕ) → tables_left feed 0 (2 + table_count feed) ≡ check_tables (class_count feed) (2 + table_count feed) (tables feed)
tables_start feed =
    let e : class_count feed - 0 ≡ class_count feed = omega arith in
    rw (e, tables-from-start)

module _ (feed : List ℕ) (counted : 2 + table_count feed ≤ length feed) (k i : ℕ) where
  tables-pass : k < table_count feed → Ends feed k i →
      check_pairs (ltb k (class_count feed)) i [] (take (get_or (counts feed) k 0) (pairs_of (drop i feed))) then tables_left feed (k + 1) (i + 2 * get_or (counts feed) k 0)
      ≡ tables_left feed k i
  unfolding check_tables
  tables-pass h ends =
      let e : class_count feed - k - 1 ≡ class_count feed - (k + 1) = omega arith in
      let l = length-table feed i (get_or (counts feed) k 0) (ends-inside feed counted k i h ends) in
      rw (tables-next feed counted k i h, l, e, class-left)

  pub tables-turn : {v : Verdict} {c n : ℕ} → k < table_count feed → Ends feed k i → c ≡ class_count feed → n ≡ get_or (counts feed) k 0 →
      v ≡ check_pairs (ltb k c) i [] (take n (pairs_of (drop i feed))) → v then tables_left feed (k + 1) (i + 2 * n) ≡ tables_left feed k i
  tables-turn h ends e d a = rw (a, e, d) (tables-pass h ends)

  pub tables_end : table_count feed ≤ k → accepted ≡ tables_left feed k i
  unfolding check_tables cut
  tables_end h =
      let l : length (counts feed) ≤ k = rw (length-counts feed counted) h in
      rw (drop_of_length-le (counts feed) l)

-- the check of tables that are all classes, or all labels
unfoldable pub check_all : Bool → ℕ → List Table → Verdict
check_all is_class at [] = accepted
check_all is_class at (t ∷ ts) = check_pairs is_class at [] t then check_all is_class (at + 2 * length t) ts

-- the check of tables is that of the classes, and then that of the labels behind them
tables-as-labels : (at : ℕ) (ls : List Table) → check_tables 0 at ls ≡ check_all false at ls
unfolding check_tables check_all
tables-as-labels at [] = refl
tables-as-labels at (t ∷ ts) = rw (le-ltb 0 0 (omega arith), tables-as-labels (at + 2 * length t) ts)

pub classes-then-labels : (at : ℕ) (cs ls : List Table) → check_tables (length cs) at (cs ++ ls) ≡ check_all true at cs then check_all false (at + 2 * total (map length cs)) ls
unfolding check_tables check_all total ◌then◌
classes-then-labels at [] ls = let e : at + 2 * 0 ≡ at = omega arith in rw e (tables-as-labels at ls)
classes-then-labels at (t ∷ ts) ls =
    let d : suc (length ts) - 1 ≡ length ts = omega arith in
    let e : at + 2 * (length t + total (map length ts)) ≡ at + 2 * length t + 2 * total (map length ts) = omega arith in
    rw (lt-ltb 0 (suc (length ts)) (omega arith), d, e, then-assoc, classes-then-labels (at + 2 * length t) ts ls)

length_cut : {A : Type 0} (ns : List ℕ) (xs : List A) → length (cut ns xs) ≡ length ns
unfolding cut
length_cut [] xs = refl
length_cut (n ∷ ns) xs = ap suc (length_cut ns (drop n xs))

-- so are the tables of a feed checked: those that `class_table` reads, and then those that `label_table` reads
pub feed-classes-then-labels : (feed : List ℕ) (at : ℕ) → 2 + table_count feed ≤ length feed → check_tables (class_count feed) at (tables feed)
    ≡ check_all true at (take (class_count feed) (tables feed))
    then check_all false (at + 2 * total (map length (take (class_count feed) (tables feed)))) (drop (class_count feed) (tables feed))
unfolding tables table_count
feed-classes-then-labels feed at counted =
    let c = class_count feed in
    let h : c ≤ length (tables feed) = omega (arith, length_cut (counts feed) (pairs_of (body feed)), length-counts feed counted) in
    rw (length-take-le c (tables feed) h, take-append-drop) at (classes-then-labels at (take c (tables feed)) (drop c (tables feed)))

-- the check of a feed that stops at the first two words
module _ (feed : List ℕ) where
  pub no-head : length feed < 2 → refused 1 0 ≡ check_feed feed
  unfolding check_feed unless ◌then◌
  no-head h = rw (lt-leb 2 (length feed) h)

  pub many-classes : 2 ≤ length feed → most_classes < class_count feed → refused 2 0 ≡ check_feed feed
  unfolding check_feed unless ◌then◌
  many-classes a h = rw (le-leb 2 (length feed) a, lt-leb (class_count feed) most_classes h)

  pub many-labels : 2 ≤ length feed → class_count feed ≤ most_classes → most_labels < label_count feed → refused 2 1 ≡ check_feed feed
  unfolding check_feed unless ◌then◌
  many-labels a b h = rw (le-leb 2 (length feed) a, le-leb (class_count feed) most_classes b, lt-leb (label_count feed) most_labels h)

  pub no-counts : 2 ≤ length feed → class_count feed ≤ most_classes → label_count feed ≤ most_labels → length feed < 2 + table_count feed → refused 1 0 ≡ check_feed feed
  unfolding check_feed unless ◌then◌
  no-counts a b c h =
      rw (le-leb 2 (length feed) a, le-leb (class_count feed) most_classes b, le-leb (label_count feed) most_labels c, lt-leb (2 + table_count feed) (length feed) h)

-- the check of a feed whose first two words passed
pub record Head (feed : List ℕ) : Type 0 where
  pub headed : 2 ≤ length feed
  pub few_classes : class_count feed ≤ most_classes
  pub few_labels : label_count feed ≤ most_labels
  pub counted : 2 + table_count feed ≤ length feed

module _ (feed : List ℕ) (h : Head feed) where
  after-head : check_counts 2 (counts feed)
      then unless (eqb (length feed) (2 + table_count feed + 2 * total (counts feed))) 1 0
      then check_tables (class_count feed) (2 + table_count feed) (tables feed)
      ≡ check_feed feed
  unfolding check_feed unless ◌then◌
  after-head =
      rw (le-leb 2 (length feed) h.headed, le-leb (class_count feed) most_classes h.few_classes, le-leb (label_count feed) most_labels h.few_labels, le-leb (2 + table_count feed) (length feed) h.counted)

  pub count-over : {r : Refusal} → Err r ≡ counts_found (check_counts 2 (counts feed)) (total (counts feed)) → refusal_of r ≡ check_feed feed
  count-over {r} e =
      let d = counts-refused 2 (counts feed) (total (counts feed)) e in
      d ∙ sym (refused-first (check_counts 2 (counts feed)) _ (ap is_accepted (sym d) ∙ refuses r)) ∙ after-head

  module _ {s : ℕ} (e : Ok s ≡ counts_found (check_counts 2 (counts feed)) (total (counts feed))) where
    passed : (check_counts 2 (counts feed) ≡ accepted) × (s ≡ total (counts feed))
    passed = counts-accepted (check_counts 2 (counts feed)) (total (counts feed)) e

    pub wrong-length : (length feed ≡ 2 + table_count feed + 2 * s → ⊥) → refused 1 0 ≡ check_feed feed
    unfolding unless ◌then◌
    wrong-length n = rw (← after-head, passed.0, ← passed.1, ne_eqb (length feed) (2 + table_count feed + 2 * s) n)

    pub right-length : length feed ≡ 2 + table_count feed + 2 * s → check_tables (class_count feed) (2 + table_count feed) (tables feed) ≡ check_feed feed
    unfolding unless ◌then◌
    right-length l = rw (← after-head, passed.0, ← passed.1, eq-eqb (length feed) (2 + table_count feed + 2 * s) l)

    pub sum-small : s ≤ most_tables * most_table_pairs
    unfolding table_count
    sum-small = omega (arith, h.few_classes, h.few_labels, passed.1, counts-small 2 (counts feed) passed.0, length-counts feed h.counted)

    pub is-exact : length feed ≡ 2 + table_count feed + 2 * s → Exact feed
    unfolding table_count
    is-exact l = record { few = omega arith; exact = omega (arith, passed.1); short = omega (arith, sum-small) }
