-- Words: the tables of a feed, read off its words. A table of n pairs that starts at the word `at` is take n (pairs_of (drop at feed)).
--
-- In order: the words two by two; a table by its place and its count; a span; the count words, and the counts; the tables from one of them on; those of
-- classes and labels among them; two-way labels. Assumes nothing.
use mathlib.Core.Path.{◌≡◌, refl, sym, ap, ◌∙◌}
use mathlib.Core.List.{List, [], ◌∷◌, map}
use Prim.Native.Nat.{ℕ, zero, suc, ◌+◌, ◌*◌, ◌-◌, ◌<◌, ◌≤◌}
use native.Mathlib.Numerals.{add-one}
use native.Mathlib.Omega.{arith}
use lib.ListN.{length, get_or, take, drop, length-drop, length-append, length-map, get_or-append, get_or-map}
use lib.Seq.{drop-cons, drop-drop, get_or-take, get_or-drop, get_or-append-add, length-take-le, take_all}
use Rattle.tables.specs.Lists.{total}
use Rattle.tables.specs.Order.{Table, pair}
use Rattle.limits.specs.Limits.{most_table_pairs}
use Rattle.feed.specs.Feed.{class_count, table_count, count_words, is_marked, size_of, counts, is_two_way, body, pairs_of, cut, tables, class_table, label_table}
use Rattle.feed.specs.inner.Parts.{pair_from, TableOf}

-- the words two by two
drop-two : (i : ℕ) (ws : List ℕ) → i + 1 < length ws → drop i ws ≡ get_or ws i 0 ∷ get_or ws (i + 1) 0 ∷ drop (i + 2) ws
drop-two i ws h =
    let e : i + 2 ≡ suc (suc i) = omega arith in
    let l : i < length ws = omega arith in
    let k : suc i < length ws = omega arith in
    rw (e, add-one, drop-cons ws i 0, drop-cons ws (suc i) 0)

pub pairs-cons : (i : ℕ) (ws : List ℕ) → i + 1 < length ws → pairs_of (drop i ws) ≡ pair_from ws i ∷ pairs_of (drop (i + 2) ws)
unfolding pairs_of
pairs-cons i ws h = rw (drop-two i ws h)

pub pairs-drop : (n : ℕ) (ws : List ℕ) → pairs_of (drop (2 * n) ws) ≡ drop n (pairs_of ws)
unfolding pairs_of
pairs-drop zero ws = refl
pairs-drop (suc n) [] = let e : 2 * suc n ≡ suc (suc (2 * n)) = omega arith in rw e
pairs-drop (suc n) (u ∷ []) = let e : 2 * suc n ≡ suc (suc (2 * n)) = omega arith in rw e
pairs-drop (suc n) (u ∷ v ∷ ws) = let e : 2 * suc n ≡ suc (suc (2 * n)) = omega arith in rw e (pairs-drop n ws)

pairs-long : (n : ℕ) (ws : List ℕ) → 2 * n ≤ length ws → n ≤ length (pairs_of ws)
unfolding pairs_of
pairs-long zero ws h = omega arith
pairs-long (suc n) [] h = absurd (omega arith)
pairs-long (suc n) (u ∷ []) h = absurd (omega arith)
pairs-long (suc n) (u ∷ v ∷ ws) h = let l = pairs-long n ws (omega arith) in omega arith

-- a table by its place and its count
module _ (ws : List ℕ) (i n : ℕ) (inside : i + 2 * n ≤ length ws) where
  pub length-table : length (take n (pairs_of (drop i ws))) ≡ n
  length-table =
      let l : 2 * n ≤ length (drop i ws) = rw length-drop (omega arith) in
      length-take-le n (pairs_of (drop i ws)) (pairs-long n (drop i ws) l)

-- a table by its words
pub pairs-front : (n : ℕ) (ws : List ℕ) → pairs_of (take (2 * n) ws) ≡ take n (pairs_of ws)
unfolding pairs_of
pairs-front zero ws = refl
pairs-front (suc n) [] = let e : 2 * suc n ≡ suc (suc (2 * n)) = omega arith in rw e refl
pairs-front (suc n) (x ∷ []) = let e : 2 * suc n ≡ suc (suc (2 * n)) = omega arith in rw e refl
pairs-front (suc n) (x ∷ y ∷ ws) = let e : 2 * suc n ≡ suc (suc (2 * n)) = omega arith in rw e (ap (λ (t : Table). pair x y ∷ t) (pairs-front n ws))

-- a slice of words, two by two
pub length-pairs : (ws : List ℕ) (n : ℕ) → length ws ≡ 2 * n → length (pairs_of ws) ≡ n
length-pairs ws n e =
    let t = pairs-front n ws in
    let z : take (2 * n) ws ≡ ws = take_all (2 * n) ws (omega arith) in
    ap (λ (us : List ℕ). length (pairs_of us)) (sym z) ∙ ap length t ∙ length-table ws 0 n (omega arith)

pub stored-words : (feed : List ℕ) {t : Table} (i n : ℕ) → i + 2 * n ≤ length feed → n ≤ most_table_pairs → take n (pairs_of (drop i feed)) ≡ t → TableOf feed t (take (2 * n) (drop i feed))
stored-words feed {t} i n inside short pairs =
    let m = sym (ap length pairs) ∙ length-table feed i n inside in
    let d = length-drop i feed in
    let l = length-take-le (2 * n) (drop i feed) (omega (arith, d)) in
    record {
      start = i;
      part = let e : n ≡ length t = omega (arith, m) in rw e refl;
      inside = omega (arith, l, inside);
      even = l ∙ omega (arith, m);
      short = omega (arith, m);
      pairs = pairs-front n (drop i feed) ∙ pairs;
    }

-- the count words, and the counts
word_at : (feed : List ℕ) (k : ℕ) → k < table_count feed → get_or (count_words feed) k 0 ≡ get_or feed (2 + k) 0
unfolding count_words
word_at feed k h = rw (get_or-take, get_or-drop)

unmarked-at : (ws : List ℕ) (k : ℕ) → get_or (map size_of ws) k 0 ≡ size_of (get_or ws k 0)
unfolding size_of is_marked
unmarked-at ws k = get_or-map size_of ws k 0

module _ (feed : List ℕ) (counted : 2 + table_count feed ≤ length feed) where
  length-words : length (count_words feed) ≡ table_count feed
  unfolding count_words
  length-words =
      let l : table_count feed ≤ length (drop 2 feed) = rw length-drop (omega arith) in
      length-take-le (table_count feed) (drop 2 feed) l

  length-class-words : length (take (class_count feed) (count_words feed)) ≡ class_count feed
  unfolding table_count
  length-class-words = length-take-le (class_count feed) (count_words feed) (omega (arith, length-words))

  pub length-counts : length (counts feed) ≡ table_count feed
  unfolding counts table_count
  length-counts =
      let ws = count_words feed in
      let l = length-append (take (class_count feed) ws) (map size_of (drop (class_count feed) ws)) in
      let m = length-map (drop (class_count feed) ws) size_of in
      let d = length-drop (class_count feed) ws in
      omega (arith, l, m, d, length-words, length-class-words)

  pub class-size : (k : ℕ) → k < class_count feed → get_or (counts feed) k 0 ≡ get_or feed (2 + k) 0
  unfolding counts table_count
  class-size k h =
      let l : k < length (take (class_count feed) (count_words feed)) = rw length-class-words h in
      let ws = count_words feed in
      get_or-append (take (class_count feed) ws) (map size_of (drop (class_count feed) ws)) 0 k l ∙ get_or-take (class_count feed) ws k 0 h ∙ word_at feed k (omega arith)

  pub label-size : (k : ℕ) → class_count feed ≤ k → k < table_count feed → get_or (counts feed) k 0 ≡ size_of (get_or feed (2 + k) 0)
  unfolding counts table_count
  label-size k a h =
      let c = class_count feed in
      let ws = count_words feed in
      let e : c + (k - c) ≡ k = omega arith in
      let l : length (take c ws) + (k - c) ≡ k = omega (arith, length-class-words) in
      rw l at (get_or-append-add (take c ws) (map size_of (drop c ws)) (k - c) 0)
      ∙ unmarked-at (drop c ws) (k - c)
      ∙ ap size_of (get_or-drop c ws (k - c) 0 ∙ ap (λ (j : ℕ). get_or ws j 0) e ∙ word_at feed k h)

  pub counts-next : (k : ℕ) → k < table_count feed → drop k (counts feed) ≡ get_or (counts feed) k 0 ∷ drop (k + 1) (counts feed)
  counts-next k h =
      let l : k < length (counts feed) = rw length-counts h in
      rw (add-one, drop-cons (counts feed) k 0)

-- the tables from the table k on, which starts at the word i
abbrev pub tables_from : List ℕ → ℕ → ℕ → List Table
tables_from feed k i = cut (drop k (counts feed)) (pairs_of (drop i feed))

pub tables-from-start : (feed : List ℕ) → tables_from feed 0 (2 + table_count feed) ≡ tables feed
unfolding tables body
tables-from-start feed = rw drop-drop

-- the words from i on are those of the tables from k on
pub record Ends (feed : List ℕ) (k i : ℕ) : Type 0 where
  pub ends : i + 2 * total (drop k (counts feed)) ≡ length feed

pub ends-start : (feed : List ℕ) → length feed ≡ 2 + table_count feed + 2 * total (counts feed) → Ends feed 0 (2 + table_count feed)
ends-start feed e = record { ends = sym e }

module _ (feed : List ℕ) (counted : 2 + table_count feed ≤ length feed) (k i : ℕ) (h : k < table_count feed) where
  pub tables-next : tables_from feed k i ≡ take (get_or (counts feed) k 0) (pairs_of (drop i feed)) ∷ tables_from feed (k + 1) (i + 2 * get_or (counts feed) k 0)
  unfolding cut
  tables-next = rw (counts-next feed counted k h, ← pairs-drop, drop-drop)

  total-next : total (drop k (counts feed)) ≡ get_or (counts feed) k 0 + total (drop (k + 1) (counts feed))
  unfolding total
  total-next = rw (counts-next feed counted k h)

  pub ends-inside : Ends feed k i → i + 2 * get_or (counts feed) k 0 ≤ length feed
  ends-inside e = omega (arith, e.ends, total-next)

  pub ends_next : Ends feed k i → Ends feed (k + 1) (i + 2 * get_or (counts feed) k 0)
  ends_next e = record { ends = omega (arith, e.ends, total-next) }

  pub table-later : (m : ℕ) → k < m → get_or (tables_from feed (k + 1) (i + 2 * get_or (counts feed) k 0)) (m - (k + 1)) [] ≡ get_or (tables_from feed k i) (m - k) []
  table-later m l =
      let e : m - k ≡ suc (m - (k + 1)) = omega arith in
      rw (e, tables-next)

  pub table_here : take (get_or (counts feed) k 0) (pairs_of (drop i feed)) ≡ get_or (tables_from feed k i) (k - k) []
  table_here =
      let e : k - k ≡ 0 = omega arith in
      rw (e, tables-next)

-- the tables of classes and of labels among all tables
pub class-among : (feed : List ℕ) (k : ℕ) → k < class_count feed → get_or (tables feed) k [] ≡ class_table feed k
unfolding class_table
class-among feed k h = rw get_or-take

pub label-among : (feed : List ℕ) (k : ℕ) → get_or (tables feed) (class_count feed + k) [] ≡ label_table feed k
unfolding label_table
label-among feed k = rw get_or-drop

-- the mark of a label
pub mark-at : (feed : List ℕ) (k : ℕ) → class_count feed + k < table_count feed → is_two_way feed k ≡ is_marked (get_or feed (2 + class_count feed + k) 0)
unfolding is_two_way
mark-at feed k h =
    let e : 2 + (class_count feed + k) ≡ 2 + class_count feed + k = omega arith in
    rw (get_or-drop, word_at, e)
