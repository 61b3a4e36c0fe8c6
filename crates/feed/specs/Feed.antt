-- Feed: the tables that the words of a feed give, and the check of a feed (document 01, 'Feed and drawing', refusals 1 to 4; document 02, E1).
--
-- In order: the parts of a feed; count words and sizes; its tables, as they are stored; the words of tables; the check, in document 01's order. A word
-- that is not there reads as 0.
-- Assumes nothing.
use Rattle.std.specs.Prelude.{ℕ, ◌+◌, ◌*◌, ◌-◌, Bool, true, false, ◌&&◌, not, ◌||◌, cond, List, [], ◌∷◌, ◌++◌, map, eqb, leb, ltb, length, get_or, take, drop}
use Rattle.limits.specs.Limits.{most_classes, most_labels, most_table_pairs, largest_object, two_way_mark}
use Rattle.tables.specs.declared.Pair.{Pair}
use Rattle.tables.specs.Order.{Table, pair, compare_pair, is_less}
use Rattle.tables.specs.Lists.{total}
use Rattle.tables.specs.Slices.{tables_words}
use Rattle.answers.specs.Verdict.{Verdict, accepted, unless, ◌then◌}

-- ---- the parts

-- "word 0 is the class count C (0 to 32), word 1 the label count L (0 to 64)"
unfoldable pub class_count : List ℕ → ℕ
class_count feed = get_or feed 0 0

unfoldable pub label_count : List ℕ → ℕ
label_count feed = get_or feed 1 0

unfoldable pub table_count : List ℕ → ℕ
table_count feed = class_count feed + label_count feed

-- "Then come C + L pair counts (each at most 4,096), then the pairs, classes first"
unfoldable pub count_words : List ℕ → List ℕ
count_words feed = take (table_count feed) (drop 2 feed)

unfoldable pub body : List ℕ → List ℕ
body feed = drop (table_count feed) (drop 2 feed)

-- ---- count words and sizes

-- "A label may now be two-way: its count word is raised by 32,768"
unfoldable pub count_word : Bool → ℕ → ℕ
count_word true n = two_way_mark + n
count_word false n = n

unfoldable pub is_marked : ℕ → Bool
is_marked w = leb two_way_mark w

-- "the count without the mark"
unfoldable pub size_of : ℕ → ℕ
size_of w = cond (is_marked w) (w - two_way_mark) w

-- how many pairs each table has: a class's count word as it stands, so that one with a mark is over the ceiling; a label's without its mark
unfoldable pub counts : List ℕ → List ℕ
counts feed = take (class_count feed) (count_words feed) ++ map size_of (drop (class_count feed) (count_words feed))

-- label k is two-way
unfoldable pub is_two_way : List ℕ → ℕ → Bool
is_two_way feed k = is_marked (get_or (drop (class_count feed) (count_words feed)) k 0)

-- ---- the tables, as they are stored

-- the words, two by two
unfoldable pub pairs_of : List ℕ → List Pair
pairs_of [] = []
pairs_of (u ∷ []) = []
pairs_of (u ∷ v ∷ ws) = pair u v ∷ pairs_of ws

-- the list in parts of these lengths
unfoldable pub cut : {A : Type 0} → List ℕ → List A → List (List A)
cut [] xs = []
cut (n ∷ ns) xs = take n xs ∷ cut ns (drop n xs)

unfoldable pub tables : List ℕ → List Table
tables feed = cut (counts feed) (pairs_of (body feed))

-- the table of class k, that of label k; one that does not exist is empty
unfoldable pub class_table : List ℕ → ℕ → Table
class_table feed k = get_or (take (class_count feed) (tables feed)) k []

unfoldable pub label_table : List ℕ → ℕ → Table
label_table feed k = get_or (drop (class_count feed) (tables feed)) k []

-- ---- the words of these class tables and these labels

pub record Label : Type 0 where
  pub two_way : Bool
  pub pairs : Table

unfoldable pub label_word : Label → ℕ
label_word l = count_word l.two_way (length l.pairs)

unfoldable pub feed_words : List Table → List Label → List ℕ
feed_words classes labels =
    length classes ∷ length labels ∷ (map length classes ++ (map label_word labels ++ tables_words (classes ++ map (λ l. l.pairs) labels)))

-- ---- the check

-- "2: C, L or a count over its ceiling (that word)"; "The ceiling of 4,096 is on the count without the mark; a marked class count is 2"
unfoldable pub check_counts : ℕ → List ℕ → Verdict
check_counts at [] = accepted
check_counts at (n ∷ ns) = unless (leb n most_table_pairs) 2 at then check_counts (at + 1) ns

-- p is above the pair before it, of which there is at most one
unfoldable pub above : List Pair → Pair → Bool
above [] p = true
above (q ∷ qs) p = is_less (compare_pair q p)

-- "3: a value above 65,535, or a pair not above the one before it in its table (left word of the pair)"
-- "4: class pair with unequal sides (left word)"; at one pair 3 comes before 4
unfoldable pub check_pair : Bool → ℕ → List Pair → Pair → Verdict
check_pair is_class at before p =
    unless (leb p.left largest_object && leb p.right largest_object && above before p) 3 at
    then unless (not is_class || eqb p.left p.right) 4 at

unfoldable pub check_pairs : Bool → ℕ → List Pair → Table → Verdict
check_pairs is_class at before [] = accepted
check_pairs is_class at before (p ∷ ps) = check_pair is_class at before p then check_pairs is_class (at + 2) (p ∷ []) ps

-- the tables from here on, the first c of which are classes; `classes-then-labels` (proofs/Checks) says that this is the check of c classes
-- as classes, and then that of the labels behind them as labels
unfoldable pub check_tables : ℕ → ℕ → List Table → Verdict
check_tables c at [] = accepted
check_tables c at (t ∷ ts) = check_pairs (ltb 0 c) at [] t then check_tables (c - 1) (at + 2 * length t) ts

-- "For the feed: 1 and 2 in word order (length 2, C and L, 2 + C + L, counts, exact length), then pairs by place, 3 before 4"
unfoldable pub check_feed : List ℕ → Verdict
check_feed feed =
    unless (leb 2 (length feed)) 1 0
    then unless (leb (class_count feed) most_classes) 2 0
    then unless (leb (label_count feed) most_labels) 2 1
    then unless (leb (2 + table_count feed) (length feed)) 1 0
    then check_counts 2 (counts feed)
    then unless (eqb (length feed) (2 + table_count feed + 2 * total (counts feed))) 1 0
    then check_tables (class_count feed) (2 + table_count feed) (tables feed)
