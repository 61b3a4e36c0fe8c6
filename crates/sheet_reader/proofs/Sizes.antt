-- Sizes: how many words the feed of some lines has. Each line is in at most one table.
--
-- In order: the lines in all tables; the labels, and their tables; the parts of a feed, and their size; the feed, part by part. Assumes nothing.
use mathlib.Core.Path.{◌≡◌, refl, ◌∙◌, sym, ap}
use mathlib.Core.List.{List, [], ◌∷◌, ◌++◌, map, append_assoc}
use Prim.Native.Nat.{ℕ, zero, suc, ◌+◌, ◌*◌, ◌<◌, ◌≤◌}
use native.Mathlib.Omega.{arith}
use native.Mathlib.Decide.{ℕ_discrete}
use lib.ListN.{length, length-append, length-map}
use Rattle.tables.specs.Lists.{keep, count, below, placed, total}
use Rattle.tables.specs.Order.{Table}
use Rattle.tables.specs.Slices.{table_words, tables_words}
use Rattle.tables.specs.inner.Words.{Put}
use Rattle.tables.proofs.Members.{length-count, length-placed}
use Rattle.tables.proofs.Slices.{length-tables_words}
use Rattle.tables.proofs.Putting.{put-size, put_then, put_as}
use Rattle.feed.specs.Feed.{Label, label_word, feed_words}
use Rattle.sheet_text.specs.inner.Parts.{names_of}
use Rattle.sheet_lines.specs.declared.Entry.{Entry}
use Rattle.sheet_lines.specs.declared.entries.Tables.{Tables}
use Rattle.sheet_lines.specs.inner.State.{tables_read}
use Rattle.sheet_reader.specs.Sheet.{lines_of, grouped, tables_of, label_of, labels_of}
use Rattle.sheet_reader.specs.inner.Answers.{feed_room, Feedable}
use Rattle.sheet_reader.proofs.Grouping.{line-in, line-out}

-- ---- the lines in all tables

sizes : List Entry → List ℕ → ℕ
sizes es ks = total (map length (map (λ k. lines_of k es) ks))

-- a line of a table before these
line-past : (x : Entry) (es : List Entry) (i n : ℕ) → x.table < i → sizes (x ∷ es) (count i n) ≡ sizes es (count i n)
unfolding sizes total count
line-past x es i zero h = refl
line-past x es i (suc n) h =
    let rest = line-past x es (i + 1) n (omega arith) in
    let same = ap length (line-out i x es (λ e. omega arith)) in
    omega arith

line-once : (x : Entry) (es : List Entry) (i n : ℕ) → sizes (x ∷ es) (count i n) ≤ suc (sizes es (count i n))
unfolding sizes total count
line-once x es i zero = omega arith
line-once x es i (suc n) = by (ℕ_discrete x.table i) (line-once x es (i + 1) n)
  where
    by : Dec (x.table ≡ i) → sizes (x ∷ es) (count (i + 1) n) ≤ suc (sizes es (count (i + 1) n))
        → length (lines_of i (x ∷ es)) + sizes (x ∷ es) (count (i + 1) n) ≤ suc (length (lines_of i es) + sizes es (count (i + 1) n))
    by (yes e) r = let more = ap length (line-in i x es e) in let rest = line-past x es (i + 1) n (omega arith) in omega arith
    by (no d) r = let same = ap length (line-out i x es d) in omega arith

none-sized : (ks : List ℕ) → sizes [] ks ≡ 0
unfolding sizes total lines_of keep
none-sized [] = refl
none-sized (k ∷ ks) = let h = none-sized ks in omega arith

lines-bound : (es : List Entry) (i n : ℕ) → sizes es (count i n) ≤ length es
lines-bound [] i n = let z = none-sized (count i n) in omega arith
lines-bound (x ∷ es) i n = let o = line-once x es i n in let h = lines-bound es i n in omega arith

pub length-grouped : (es : List Entry) (n : ℕ) → length (grouped es n) ≡ n
unfolding grouped below
length-grouped es n = length-map (below n) (λ k. lines_of k es) ∙ length-count 0 n

pub tables-bound : (es : List Entry) (n : ℕ) → length (tables_words (grouped es n)) ≤ 2 * length es
unfolding grouped below sizes
tables-bound es n = let l = length-tables_words (grouped es n) in let b = lines-bound es 0 n in omega arith

-- ---- the labels, and their tables

pairs-placed : (es : List Entry) (i : ℕ) (names : List (List ℕ)) → map (λ l. l.pairs) (placed (label_of es) i names) ≡ map (λ k. lines_of k es) (count i (length names))
unfolding placed label_of count
pairs-placed es i [] = refl
pairs-placed es i (name ∷ names) = rw (pairs-placed es (i + 1) names)

module _ (t : Tables) where
  length-tables : length (tables_of (tables_read t)) ≡ length (names_of t.names)
  unfolding tables_of tables_read
  length-tables = length-grouped _ _

  length-labels : length (labels_of (tables_read t)) ≡ length (names_of t.names)
  unfolding labels_of tables_read
  length-labels = length-placed (label_of (tables_read t).lines) 0 (names_of t.names)

  pairs-of-labels : map (λ l. l.pairs) (labels_of (tables_read t)) ≡ tables_of (tables_read t)
  unfolding labels_of tables_of grouped below
  pairs-of-labels = pairs-placed (tables_read t).lines 0 (tables_read t).names

  words-bound : length (tables_words (tables_of (tables_read t))) ≤ 2 * length (tables_read t).lines
  unfolding tables_of
  words-bound = tables-bound (tables_read t).lines _

-- ---- the parts of a feed

tables-joined : (cs ls : List Table) → tables_words (cs ++ ls) ≡ tables_words cs ++ tables_words ls
unfolding tables_words
tables-joined [] ls = refl
tables-joined (t ∷ cs) ls = rw (tables-joined cs ls) (sym (append_assoc (table_words t) (tables_words cs) (tables_words ls)))

feed-parts : (cs : List Table) (ls : List Label) {ts : List Table} → map (λ l. l.pairs) ls ≡ ts →
    (length cs ∷ length ls ∷ []) ++ (map length cs ++ (map label_word ls ++ (tables_words cs ++ tables_words ts))) ≡ feed_words cs ls
unfolding feed_words
feed-parts cs ls {ts} e = rw (e, tables-joined cs ts)

pub feed-size : {words : List ℕ} {c l : Tables} → Feedable words c l → length (feed_words (tables_of (tables_read c)) (labels_of (tables_read l))) ≤ feed_room
feed-size {c = c} {l = l} g =
    let e = simp (length-append, length-map) at (ap length (feed-parts (tables_of (tables_read c)) (labels_of (tables_read l)) (pairs-of-labels l))) in
    omega (arith, g.few, g.classes, g.labels, words-bound c, words-bound l, length-tables c, length-labels l)

-- ---- the feed, part by part: there is room for each behind the one before it

room-first : (at : ℕ) {n : ℕ} (xs ys : List ℕ) → at + length (xs ++ ys) ≤ n → at + length xs ≤ n
room-first at xs ys h = let l = length-append xs ys in omega arith

room-rest : {ws vs : List ℕ} {at r : ℕ} {xs : List ℕ} → Put ws vs at xs r → (ys : List ℕ) → at + length (xs ++ ys) ≤ length ws → r + length ys ≤ length vs
room-rest {xs = xs} w ys h = let l = length-append xs ys in omega (arith, w.next, put-size w)

module _ {words : List ℕ} {c l : Tables} (g : Feedable words c l) where
  abbrev cs : List Table
  cs = tables_of (tables_read c)

  abbrev ls : List Label
  ls = labels_of (tables_read l)

  abbrev ts : List Table
  ts = tables_of (tables_read l)

  parts : (length cs ∷ length ls ∷ []) ++ (map length cs ++ (map label_word ls ++ (tables_words cs ++ tables_words ts))) ≡ feed_words cs ls
  parts = feed-parts cs ls (pairs-of-labels l)

  module _ {words₁ : List ℕ} {r₁ : ℕ} (p₁ : Put words words₁ 0 (length (names_of c.names) ∷ length (names_of l.names) ∷ []) r₁) where
    head : Put words words₁ 0 (length cs ∷ length ls ∷ []) r₁
    head = rw (length-tables c, length-labels l) p₁

    room₁ : r₁ + length (map length cs ++ (map label_word ls ++ (tables_words cs ++ tables_words ts))) ≤ length words₁
    room₁ =
        let e = ap length parts in
        let s = feed-size g in
        room-rest head (map length cs ++ (map label_word ls ++ (tables_words cs ++ tables_words ts))) (omega (arith, g.room))

    pub class-counts : r₁ + length (map length cs) ≤ length words₁
    class-counts = room-first r₁ (map length cs) _ room₁

    module _ {words₂ : List ℕ} {r₂ : ℕ} (p₂ : Put words₁ words₂ r₁ (map length cs) r₂) where
      room₂ : r₂ + length (map label_word ls ++ (tables_words cs ++ tables_words ts)) ≤ length words₂
      room₂ = room-rest p₂ _ room₁

      pub label-counts : r₂ + length (map label_word ls) ≤ length words₂
      label-counts = room-first r₂ (map label_word ls) _ room₂

      module _ {words₃ : List ℕ} {r₃ : ℕ} (p₃ : Put words₂ words₃ r₂ (map label_word ls) r₃) where
        room₃ : r₃ + length (tables_words cs ++ tables_words ts) ≤ length words₃
        room₃ = room-rest p₃ _ room₂

        pub class-pairs : r₃ + length (tables_words cs) ≤ length words₃
        class-pairs = room-first r₃ (tables_words cs) _ room₃

        module _ {words₄ : List ℕ} {r₄ : ℕ} (p₄ : Put words₃ words₄ r₃ (tables_words cs) r₄) where
          pub label-pairs : r₄ + length (tables_words ts) ≤ length words₄
          label-pairs = room-rest p₄ _ room₃

          pub feed-put : {words₅ : List ℕ} {r₅ : ℕ} → Put words₄ words₅ r₄ (tables_words ts) r₅ → Put words words₅ 0 (feed_words cs ls) r₅
          feed-put p₅ = put_as parts (put_then head (put_then p₂ (put_then p₃ (put_then p₄ p₅))))
