-- Longest: how many bytes of a sheet decide its listing, and how long a listing can be.
--
-- In order: a sheet too long, cut; a line; the picked names; the lines of rows; the objects of a row; the listing of a
-- sheet; the call, with any slice and with one in which every listing fits. Assumes nothing.
use Prim.Native.Nat.{ℕ, ◌+◌, ◌*◌, ◌<◌, ◌≤◌}
use native.Mathlib.Omega.{arith}
use native.Mathlib.Nat.{mul-suc, suc-mul}
use native.Mathlib.Decide.{dec_lt}
use mathlib.Core.Bool.{Bool, true, false, cond}
use mathlib.Core.Path.{◌≡◌, refl, sym, ap, ◌∙◌}
use mathlib.Core.List.Memᴰ
use mathlib.Core.List.Memᴰ.{head as here}
use mathlib.Core.List.Memᴰ.{tail as there}
use mathlib.Core.List.{List, [], ◌∷◌, map, flat_map}
use lib.Dec.{leb}
use lib.ListN.{length, get_or, take, drop, length-append, length-map, length-take}
use lib.Seq.{take_all, take-append_seam}
use borrow.Author.Tests.{le-leb}
use Rattle.limits.specs.Limits.{largest_object, most_nodes, most_bytes, most_letters, most_digits}
use Rattle.tables.specs.Lists.{◌∈◌}
use Rattle.answers.specs.Verdict.{Verdict, accepted, refused, number, location}
use Rattle.tables.proofs.Members.{in_map, in-at, at_less, at-get_or}
use Rattle.tables.proofs.Tests.{decide, leb-is}
use Rattle.feed.specs.Feed.{check_feed}
use Rattle.feed.proofs.Feed.{class-sides, class-sound}
use Rattle.drawing.specs.declared.Node.{Node}
use Rattle.drawing.specs.Drawing.{Pattern, no_node, is_picked, drawing_words}
use Rattle.drawing.specs.Embeddings.{picked, rows}
use Rattle.drawing.proofs.Checks.{drawing-feed}
use Rattle.drawing.proofs.Embeddings.{in_rows}
use Rattle.query_answer.specs.Query.{pick_count, query}
use Rattle.sheet_text.specs.Text.{bytes, digits}
use Rattle.sheet_reader.specs.Sheet.{Outcome, read_sheet, feed_of}
use Rattle.sheet_reader.proofs.Words.{sheet-long}
use Rattle.sheet_writer.specs.Picked.{picked_names}
use Rattle.sheet_writer.proofs.Digits.{object-digits, word-digits}
use Rattle.sheet_writer.proofs.Picked.{picked-among as names-among}
use Rattle.sheet_listing.specs.Listing.{line, listing, refusal, Listed, listed_in, listed}
use Rattle.sheet_listing.specs.inner.Written.{row_lines}
use Rattle.sheet.specs.SheetQuery.{own_slices, answer_text, query_text, outcome_text, sheet_listing, sheet_query, longest_listing, deciding_bytes}
use Rattle.sheet.proofs.NodeNames.{Shorter, Sheet, broken, whole, sheet-few, few-short}
use Rattle.sheet.proofs.Picks.{row-length}
use Rattle.sheet.proofs.Printing.{drawing-accepted, rows_fit, some-pick}

-- ---- a sheet too long, cut

pub cut-read : (sheet : List ℕ) (n : ℕ) → deciding_bytes ≤ n → read_sheet (take n sheet) ≡ read_sheet sheet
cut-read sheet n enough = by (dec_lt most_bytes (length sheet))
  where
    by : Dec (most_bytes < length sheet) → read_sheet (take n sheet) ≡ read_sheet sheet
    by (yes h) = let l = length-take n sheet in sheet-long (take n sheet) (omega arith) ∙ sym (sheet-long sheet h)
    by (no h) = ap read_sheet (take_all n sheet (omega arith))

pub cut-same : (sheet : List ℕ) (n : ℕ) → deciding_bytes ≤ n → sheet_listing (take n sheet) ≡ sheet_listing sheet
unfolding sheet_listing
cut-same sheet n enough = ap outcome_text (cut-read sheet n enough)

-- ---- a line

line-size : (w : ℕ) (f : List ℕ) (fs : List (List ℕ)) → Shorter w (f ∷ fs) → length (line (f ∷ fs)) ≤ w * length (f ∷ fs)
unfolding line Shorter
line-size w f [] h =
    let a = length-append f (10 ∷ []) in
    let s = h f (here refl) in
    omega (arith, mul-suc w 0)
line-size w f (g ∷ fs) h =
    let a = length-append f (32 ∷ line (g ∷ fs)) in
    let s = h f (here refl) in
    let r = line-size w g fs (λ x m. h x (there m)) in
    omega (arith, mul-suc w (length (g ∷ fs)))

-- ---- the picked names

picked-few : (ns : List (List ℕ)) (vs : List Node) → length (picked_names ns vs) ≤ length ns
unfolding picked_names
picked-few [] vs = omega arith
picked-few (n ∷ ns) [] = omega arith
picked-few (n ∷ ns) (v ∷ vs) = by (is_picked v) (picked-few ns vs)
  where
    by : (b : Bool) → length (picked_names ns vs) ≤ length ns → length (cond b (n ∷ picked_names ns vs) (picked_names ns vs)) ≤ length (n ∷ ns)
    by true h = omega arith
    by false h = omega arith

picked-shorter : (w : ℕ) (ns : List (List ℕ)) (vs : List Node) → Shorter w ns → Shorter w (picked_names ns vs)
unfolding Shorter
picked-shorter w ns vs h = λ f m. h f (names-among ns vs m)

names-size : (ns : List (List ℕ)) (vs : List Node) → length ns ≤ most_nodes → Shorter (most_letters + 1) ns → length (line (picked_names ns vs)) ≤ most_nodes * (most_letters + 1)
unfolding line
names-size ns vs few short = by (picked_names ns vs) (picked-few ns vs) (picked-shorter (most_letters + 1) ns vs short)
  where
    by : (fs : List (List ℕ)) → length fs ≤ length ns → Shorter (most_letters + 1) fs → length (line fs) ≤ most_nodes * (most_letters + 1)
    by [] l h = omega arith
    by (f ∷ fs) l h = let s = line-size (most_letters + 1) f fs h in omega arith

-- ---- the lines of rows

-- a row of objects, one for each pick
pub record Row (picks : ℕ) (r : List ℕ) : Type 0 where
  pub size : length r ≡ picks
  pub objects : (x : ℕ) → x ∈ r → x ≤ largest_object

digits-shorter : (r : List ℕ) → ((x : ℕ) → x ∈ r → x ≤ largest_object) → Shorter (most_digits + 1) (map digits r)
unfolding Shorter
digits-shorter r h f m =
    let x = (in_map digits r).0 m in
    let d = object-digits x.0 (h x.0 x.1) in
    let e = ap length x.2 in
    omega arith

row-size : (picks : ℕ) (r : List ℕ) → 1 ≤ picks → Row picks r → length (line (map digits r)) ≤ (most_digits + 1) * picks
row-size picks [] p row = absurd (omega (arith, row.size))
row-size picks (x ∷ xs) p row =
    let s = line-size (most_digits + 1) (digits x) (map digits xs) (digits-shorter (x ∷ xs) row.objects) in
    let l = length-map xs digits in
    omega (arith, row.size)

rows-size : (picks : ℕ) (found : List (List ℕ)) → 1 ≤ picks → ((r : List ℕ) → r ∈ found → Row picks r) → length (row_lines found) ≤ (most_digits + 1) * (length found * picks)
unfolding flat_map
rows-size picks [] p h = omega arith
rows-size picks (r ∷ rs) p h =
    let one = row-size picks r p (h r (here refl)) in
    let rest = rows-size picks rs p (λ x m. h x (there m)) in
    let a = length-append (line (map digits r)) (row_lines rs) in
    omega (arith, suc-mul (length rs) picks)

-- ---- the objects of a row

picked-among : (vs : List Node) (at : List ℕ) {x : ℕ} → x ∈ picked vs at → x ∈ at
unfolding picked
picked-among [] at m = absurd (Memᴰ.not-nil m)
picked-among (v ∷ vs) [] m = absurd (Memᴰ.not-nil m)
picked-among (v ∷ vs) (y ∷ at) {x} m = by (is_picked v) (picked-among vs at) m
  where
    one : (x ∈ picked vs at → x ∈ at) → x ∈ (y ∷ picked vs at) → x ∈ (y ∷ at)
    one rest (here e) = here e
    one rest (there m) = there (rest m)

    by : (b : Bool) → (x ∈ picked vs at → x ∈ at) → x ∈ cond b (y ∷ picked vs at) (picked vs at) → x ∈ (y ∷ at)
    by true rest m = one rest m
    by false rest m = there (rest m)

module _ (feed : List ℕ) (p : Pattern) (ok : check_feed feed ≡ accepted) where
  pub rows-of-objects : (r : List ℕ) → r ∈ rows feed p → Row (pick_count p) r
  rows-of-objects r m = record { size = row-length feed p (λ k u v n. class-sides feed ok k n) r m; objects = λ x n. small x n }
    where
      small : (x : ℕ) → x ∈ r → x ≤ largest_object
      small x n =
          let t = (in_rows feed p (λ k u v n. class-sides feed ok k n) {r = r}).0 m in
          let i = in-at (picked-among p.nodes t.0 (rw t.2 at n)) in
          let l : i.0 < length p.nodes = omega (arith, at_less i.1, t.1.size) in
          let c = rw (at-get_or i.1 0) at (t.1.classes i.0 l) in
          ((class-sound feed ok (get_or p.nodes i.0 no_node).class).small c).0

-- ---- the listing of a sheet

pub refusal-size : (v : Verdict) → length (refusal v) ≤ longest_listing
unfolding refusal bytes Shorter
refusal-size v =
    let s = line-size 11 (bytes "refused") (digits (number v) ∷ digits (location v) ∷ []) (λ f m. short m) in
    omega arith
  where
    short : {f : List ℕ} → f ∈ (bytes "refused" ∷ digits (number v) ∷ digits (location v) ∷ []) → length f < 11
    short {f = f} (there (there (there x12))) = elim x12 [ ]
    short (here e) = let l = ap length e in omega arith
    short (there (here e)) = let l = ap length e in let d = word-digits (number v) in omega arith
    short (there (there (here e))) = let l = ap length e in let d = word-digits (location v) in omega arith

module _ (names : List (List ℕ)) (feed : List ℕ) (p : Pattern) (few : length names ≤ most_nodes) (short : Shorter (most_letters + 1) names) where
  text-size : (query feed (drawing_words p) own_slices).verdict ≡ accepted → length (listing (picked_names names p.nodes) (rows feed p)) ≤ longest_listing
  unfolding listing
  text-size ok =
      let size = names-size names p.nodes few short in
      let objects = rows-of-objects feed p (drawing-feed feed (drawing_words p) (drawing-accepted feed p ok)) in
      let lines = rows-size (pick_count p) (rows feed p) (some-pick feed p ok) objects in
      let a = length-append (line (picked_names names p.nodes)) (row_lines (rows feed p)) in
      omega (arith, rows_fit feed p ok)

  answer-size : (v : Verdict) → (query feed (drawing_words p) own_slices).verdict ≡ v → length (answer_text v names feed p) ≤ longest_listing
  unfolding answer_text
  answer-size accepted e = text-size e
  answer-size (refused n l) e = refusal-size (refused n l)

pub listing-fits : (sheet : List ℕ) → length (sheet_listing sheet) ≤ longest_listing
unfolding sheet_listing outcome_text query_text
listing-fits sheet = by (sheet-few sheet)
  where
    by : {o : Outcome} → Sheet o → length (outcome_text o) ≤ longest_listing
    by (broken {at = at}) = refusal-size (refused 14 at)
    by (whole {r = r} g) = answer-size r.names (feed_of r) r.drawing (omega (arith, g.each, g.few)) (few-short g) _ refl

-- ---- the call

pub listed-inside : (sheet before : List ℕ) {after : List ℕ} {r : ℕ} → listed r after ≡ sheet_query sheet before → r ≤ length before
unfolding sheet_query listed_in
listed-inside sheet before {r = r} e = decide (leb (length (sheet_listing sheet)) (length before))
    (λ t. let f : r ≡ length (sheet_listing sheet) = ap (λ (l : Listed). l.length') (rw t at e) in omega (arith, (leb-is (length (sheet_listing sheet)) (length before)).0 t))
    (λ t. let f : r ≡ 0 = ap (λ (l : Listed). l.length') (rw t at e) in omega arith)

pub listing-printed : (sheet before : List ℕ) {after : List ℕ} {r : ℕ} → longest_listing ≤ length before → listed r after ≡ sheet_query sheet before → take r after ≡ sheet_listing sheet
unfolding sheet_query listed_in
listing-printed sheet before room e =
    let fits = listing-fits sheet in
    let f = rw (le-leb (length (sheet_listing sheet)) (length before) (omega arith)) at e in
    ap (λ (l : Listed). take l.length' l.buffer) f ∙ take-append_seam (sheet_listing sheet) (drop (length (sheet_listing sheet)) before)
