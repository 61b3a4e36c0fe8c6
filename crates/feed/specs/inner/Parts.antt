-- Parts: what the parts of the feed's check are given and answer.
--
-- In order: a pair, and the pair before it; what a pair must be; a table passed at one go; pairs inside the feed; the counts; a table of a feed that was accepted, and its words.
-- Assumes nothing.
use Rattle.std.specs.Prelude.{Result, Ok, Err, ◌≡◌, Bool, true, not, ◌&&◌, ◌||◌, List, [], ◌∷◌, ℕ, zero, suc, ◌+◌, ◌*◌, ◌<◌, ◌≤◌, eqb, leb, length, get_or, take, drop}
use Rattle.limits.specs.Limits.{most_tables, most_table_pairs, largest_object}
use Rattle.tables.specs.declared.Pair.{Pair}
use Rattle.tables.specs.Lists.{total}
use Rattle.tables.specs.Order.{Table, pair}
use Rattle.answers.specs.Verdict.{Verdict, accepted, refused}
use Rattle.feed.specs.Feed.{table_count, counts, pairs_of, above, check_pairs, check_feed}
use Rattle.answers.specs.declared.Refusal.{Refusal}
use Rattle.answers.specs.declared.Refusal.TheVariants.{Ceiling}

-- the pair whose left word is at i
abbrev pub pair_from : List ℕ → ℕ → Pair
pair_from feed i = pair (get_or feed i 0) (get_or feed (i + 1) 0)

-- the pair before the pair j of a table that starts at the word `at`, of which there is at most one
unfoldable pub before : List ℕ → ℕ → ℕ → List Pair
before feed at zero = []
before feed at (suc j) = pair_from feed (at + 2 * j) ∷ []

-- p has values of at most 65,535, and is above the pair before it
abbrev pub Ordered : List Pair → Pair → Bool
Ordered b p = leb p.left largest_object && leb p.right largest_object && above b p

-- the sides of p are equal where it is a class pair
abbrev pub Even : Bool → Pair → Bool
Even class p = not class || eqb p.left p.right

-- both values are at most 65,535
pub record Small (p : Pair) : Type 0 where
  pub left : p.left ≤ largest_object
  pub right : p.right ≤ largest_object

-- such a pair as one number
pub record Packed (p : Pair) (number : ℕ) : Type 0 where
  pub is : Small p → number ≡ p.left * 65536 + p.right

-- where the answer is yes, the first `count` pairs of a table that starts at the word `at` are as they must be
pub record AllOrdered (feed : List ℕ) (at count : ℕ) (answer : Bool) : Type 0 where
  pub passes : answer ≡ true → (j : ℕ) → j < count → Ordered (before feed at j) (pair_from feed (at + 2 * j)) ≡ true

-- where the answer is yes, their sides are equal
pub record AllEven (feed : List ℕ) (at count : ℕ) (answer : Bool) : Type 0 where
  pub passes : answer ≡ true → (j : ℕ) → j < count → Even true (pair_from feed (at + 2 * j)) ≡ true

-- where the answer is yes, the check accepts the table
pub record Passes (feed : List ℕ) (class : Bool) (at count : ℕ) (answer : Bool) : Type 0 where
  pub accepts : answer ≡ true → check_pairs class at [] (take count (pairs_of (drop at feed))) ≡ accepted

-- the pair at the word i, or `count` pairs from the word `at` on, are inside the feed, and every place fits a word
pub record PairIn (feed : List ℕ) (i : ℕ) : Type 0 where
  pub inside : i + 1 < length feed
  pub short : length feed ≤ 4294967296

pub record TableIn (feed : List ℕ) (at count : ℕ) : Type 0 where
  pub inside : at + 2 * count ≤ length feed
  pub short : length feed ≤ 4294967296

-- the counts are inside the feed, and there are not too many
pub record Counted (feed : List ℕ) : Type 0 where
  pub counted : 2 + table_count feed ≤ length feed
  pub few : table_count feed ≤ most_tables

-- the feed has a table number k, and the counts are inside it
pub record HasTable (feed : List ℕ) (k : ℕ) : Type 0 where
  pub counted : 2 + table_count feed ≤ length feed
  pub there : k < table_count feed

-- the sum of the pair counts where their check accepts them, else the place of the first that it refuses
unfoldable pub counts_found : Verdict → ℕ → Result ℕ Refusal
counts_found accepted sum = Ok sum
counts_found (refused n p) sum = Err (Ceiling p)

-- the length is that which the counts give, and every place fits a word
pub record Exact (feed : List ℕ) : Type 0 where
  pub few : table_count feed ≤ most_tables
  pub exact : length feed ≡ 2 + table_count feed + 2 * total (counts feed)
  pub short : length feed ≤ 4294967296

-- the feed was accepted, and has a table number k of n
pub record Among (feed : List ℕ) (n k : ℕ) : Type 0 where
  pub checked : check_feed feed ≡ accepted
  pub there : k < n

-- these words, the part of the feed from `start` on, are those of the table t
pub record TableOf (feed : List ℕ) (t : Table) (words : List ℕ) : Type 0 where
  pub start : ℕ
  pub part : words ≡ take (2 * length t) (drop start feed)
  pub inside : start + length words ≤ length feed
  pub even : length words ≡ 2 * length t
  pub short : length t ≤ most_table_pairs
  pub pairs : pairs_of words ≡ t
