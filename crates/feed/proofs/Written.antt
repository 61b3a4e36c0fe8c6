-- Written: a feed's tables and marks, written and read again, are the same tables and marks.
--
-- In order: a count word, read again; the words of tables, read two by two and cut; the parts of a feed that is written; its tables; its marks; its
-- length. Assumes nothing.
use mathlib.Core.Path.{◌≡◌, refl, sym, ap, ap₂, ◌∙◌}
use mathlib.Core.Bool.{Bool, true, false}
use mathlib.Core.List.Memᴰ.{head as here}
use mathlib.Core.List.Memᴰ.{tail as there}
use mathlib.Core.List.{List, [], ◌∷◌, ◌++◌, map, map-append, append_assoc}
use Prim.Native.Nat.{ℕ, ◌+◌, ◌*◌, ◌-◌, ◌<◌}
use native.Mathlib.Omega.{arith}
use lib.ListN.{length, get_or, take, drop, length-append, length-map, get_or-map}
use lib.Seq.{take_at, drop_at, take-append_seam, drop-append_seam}
use borrow.Author.Tests.{lt-leb, le-leb}
use Rattle.limits.specs.Limits.{two_way_mark}
use Rattle.tables.specs.declared.Pair.{Pair}
use Rattle.tables.specs.Lists.{◌∈◌, total}
use Rattle.tables.specs.Order.{Table}
use Rattle.tables.specs.Slices.{table_words, tables_words}
use Rattle.tables.proofs.Slices.{length-tables_words}
use Rattle.feed.specs.Feed.{class_count, label_count, table_count, count_words, count_word, is_marked, size_of, counts, is_two_way, body, pairs_of, cut, tables, class_table, label_table, Label, label_word, feed_words}

-- a count word of a size below the mark
pub size_back : (marked : Bool) (n : ℕ) → n < two_way_mark → size_of (count_word marked n) ≡ n
unfolding size_of is_marked count_word
size_back true n h = let e : two_way_mark + n - two_way_mark ≡ n = omega arith in rw (le-leb two_way_mark (two_way_mark + n) (omega arith), e)
size_back false n h = rw (lt-leb two_way_mark n h)

pub mark-back : (marked : Bool) (n : ℕ) → n < two_way_mark → is_marked (count_word marked n) ≡ marked
unfolding is_marked count_word
mark-back true n h = le-leb two_way_mark (two_way_mark + n) (omega arith)
mark-back false n h = lt-leb two_way_mark n h

-- the words of tables
pub pairs-of-words : (t : Table) (ws : List ℕ) → pairs_of (table_words t ++ ws) ≡ t ++ pairs_of ws
unfolding pairs_of table_words
pairs-of-words [] ws = refl
pairs-of-words (p ∷ t) ws = ap (λ (ps : List Pair). p ∷ ps) (pairs-of-words t ws)

pub cut-words : (ts : List Table) → cut (map length ts) (pairs_of (tables_words ts)) ≡ ts
unfolding cut tables_words
cut-words [] = refl
cut-words (t ∷ ts) = rw (pairs-of-words, take-append_seam, drop-append_seam) (ap (λ (r : List Table). t ∷ r) (cut-words ts))

-- labels whose sizes are below the mark, as every size is that the check accepts
abbrev pub Unraised : List Label → Type 0
Unraised ls = (l : Label) → l ∈ ls → length l.pairs < two_way_mark

abbrev stored : List Label → List Table
stored ls = map (λ l. l.pairs) ls

sizes-back : (ls : List Label) → Unraised ls → map size_of (map label_word ls) ≡ map length (stored ls)
unfolding label_word
sizes-back [] h = refl
sizes-back (l ∷ ls) h = ap₂ (λ (n : ℕ) (ns : List ℕ). n ∷ ns) (size_back l.two_way (length l.pairs) (h l (here refl))) (sizes-back ls (λ m i. h m (there i)))

marks-back : (ls : List Label) → Unraised ls → map is_marked (map label_word ls) ≡ map (λ l. l.two_way) ls
unfolding label_word
marks-back [] h = refl
marks-back (l ∷ ls) h = ap₂ (λ (b : Bool) (bs : List Bool). b ∷ bs) (mark-back l.two_way (length l.pairs) (h l (here refl))) (marks-back ls (λ m i. h m (there i)))

module _ (cs : List Table) (ls : List Label) where
  -- the parts
  pub written-classes : class_count (feed_words cs ls) ≡ length cs
  unfolding class_count feed_words
  written-classes = refl

  pub written-labels : label_count (feed_words cs ls) ≡ length ls
  unfolding label_count feed_words
  written-labels = refl

  -- as many count words as tables
  words : List ℕ
  words = map length cs ++ map label_word ls

  all-counted : length words ≡ length cs + length ls
  unfolding words
  all-counted = length-append (map length cs) (map label_word ls) ∙ ap₂ (λ (m : ℕ) (n : ℕ). m + n) (length-map cs length) (length-map ls label_word)

  behind : drop 2 (feed_words cs ls) ≡ words ++ tables_words (cs ++ stored ls)
  unfolding feed_words words
  behind = sym (append_assoc (map length cs) (map label_word ls) (tables_words (cs ++ stored ls)))

  feed-long : length (feed_words cs ls) ≡ 2 + length (drop 2 (feed_words cs ls))
  unfolding feed_words
  feed-long = omega arith

  written-words : count_words (feed_words cs ls) ≡ words
  unfolding count_words table_count
  written-words = rw (behind, written-classes, written-labels) (take_at words (tables_words (cs ++ stored ls)) (length cs + length ls) all-counted)

  written-body : body (feed_words cs ls) ≡ tables_words (cs ++ stored ls)
  unfolding body table_count
  written-body = rw (behind, written-classes, written-labels) (drop_at words (tables_words (cs ++ stored ls)) (length cs + length ls) all-counted)

  class-words : take (length cs) words ≡ map length cs
  unfolding words
  class-words = take_at (map length cs) (map label_word ls) (length cs) (length-map cs length)

  label-words : drop (length cs) words ≡ map label_word ls
  unfolding words
  label-words = drop_at (map length cs) (map label_word ls) (length cs) (length-map cs length)

  module _ (low : Unraised ls) where
    pub written-counts : counts (feed_words cs ls) ≡ map length (cs ++ stored ls)
    unfolding counts
    written-counts = rw (written-classes, written-words, class-words, label-words, sizes-back ls low) (sym (map-append length cs (stored ls)))

    -- the tables
    pub written-tables : tables (feed_words cs ls) ≡ cs ++ stored ls
    unfolding tables
    written-tables = ap₂ (λ (ns : List ℕ) (ws : List ℕ). cut ns (pairs_of ws)) written-counts written-body ∙ cut-words (cs ++ stored ls)

    pub written-class : (k : ℕ) → class_table (feed_words cs ls) k ≡ get_or cs k []
    unfolding class_table
    written-class k = rw (written-classes, written-tables, take-append_seam)

    pub written-label : (k : ℕ) → label_table (feed_words cs ls) k ≡ get_or (stored ls) k []
    unfolding label_table
    written-label k = rw (written-classes, written-tables, drop-append_seam)

    -- the marks
    pub written-mark : (k : ℕ) → is_two_way (feed_words cs ls) k ≡ get_or (map (λ l. l.two_way) ls) k false
    unfolding is_two_way is_marked
    written-mark k =
        rw (written-classes, written-words, label-words) (sym (get_or-map is_marked (map label_word ls) k 0) ∙ ap (λ (bs : List Bool). get_or bs k false) (marks-back ls low))

    -- its length is that which the counts give
    pub written-length : length (feed_words cs ls) ≡ 2 + table_count (feed_words cs ls) + 2 * total (counts (feed_words cs ls))
    unfolding table_count
    written-length =
        let ts = cs ++ stored ls in
        let a : length (feed_words cs ls) ≡ 2 + length (drop 2 (feed_words cs ls)) = feed-long in
        let l = length-append words (tables_words ts) in
        rw (written-counts, written-classes, written-labels) (omega (arith, a, ap length behind, l, all-counted, length-tables_words ts))
