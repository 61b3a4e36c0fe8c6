-- Pairs: the check of a pair and of a table, in the steps in which the code takes them.
--
-- In order: the pair before a pair; the check of a pair; the check of a table, from one of its pairs on.
-- Assumes nothing.
use mathlib.Core.Path.{◌≡◌, refl, sym}
use mathlib.Core.Bool.{Bool, true, false, ◌&&◌}
use mathlib.Core.List.{List, [], ◌∷◌}
use Prim.Native.Nat.{ℕ, zero, suc, ◌+◌, ◌*◌, ◌-◌, ◌<◌, ◌≤◌}
use native.Mathlib.Numerals.{add-one}
use native.Mathlib.Omega.{arith}
use lib.ListN.{length, take, drop}
use Rattle.tables.specs.declared.Pair.{Pair}
use Rattle.tables.specs.Order.{compare_pair, is_less}
use Rattle.answers.specs.Verdict.{Verdict, accepted, refused, unless, ◌then◌}
use Rattle.feed.specs.Feed.{pairs_of, above, check_pair, check_pairs}
use Rattle.feed.specs.inner.Parts.{pair_from, before, Ordered, Even}
use Rattle.feed.proofs.Words.{pairs-cons}

-- the pair before a pair
pub before-one : (feed : List ℕ) (at j : ℕ) → (j ≡ 0 → ⊥) → before feed at j ≡ pair_from feed (at + 2 * j - 2) ∷ []
unfolding before
before-one feed at zero n = absurd (n refl)
before-one feed at (suc j) n = let e : at + 2 * suc j - 2 ≡ at + 2 * j = omega arith in rw e

module _ (feed : List ℕ) (at j : ℕ) (p : Pair) where
  pub above-none : j ≡ 0 → true ≡ above (before feed at j) p
  unfolding above before
  above-none e = rw e

  pub above-one : (j ≡ 0 → ⊥) → is_less (compare_pair (pair_from feed (at + 2 * j - 2)) p) ≡ above (before feed at j) p
  unfolding above
  above-one n = rw (before-one feed at j n)

-- the check of a pair
module _ (class : Bool) (place : ℕ) (b : List Pair) (p : Pair) where
  pub pair-passes : (o : Bool) → o ≡ Ordered b p → o && Even class p ≡ true → accepted ≡ check_pair class place b p
  unfolding check_pair unless ◌then◌
  pair-passes true e h = rw (sym e, h)
  pair-passes false e h = cc

  pub not-even : (o : Bool) → o ≡ Ordered b p → o && Even class p ≡ false → o ≡ true → refused 4 place ≡ check_pair class place b p
  unfolding check_pair unless ◌then◌
  not-even true e h t = rw (sym e, h)
  not-even false e h t = cc

  pub not-ordered : (o : Bool) → o ≡ Ordered b p → o ≡ false → refused 3 place ≡ check_pair class place b p
  unfolding check_pair unless ◌then◌
  not-ordered o e f = rw (sym e, f)

-- the check of a table, from the pair j on
abbrev pub pairs_left : List ℕ → Bool → ℕ → ℕ → ℕ → Verdict
pairs_left feed class at count j = check_pairs class (at + 2 * j) (before feed at j) (take (count - j) (pairs_of (drop (at + 2 * j) feed)))

module _ (feed : List ℕ) (class : Bool) (at count : ℕ) where
  pub pairs_start : pairs_left feed class at count 0 ≡ check_pairs class at [] (take count (pairs_of (drop at feed)))
  unfolding before
  pairs_start =
      let e : at + 2 * 0 ≡ at = omega arith in
      let d : count - 0 ≡ count = omega arith in
      rw (e, d)

  pub pairs-turn : (j : ℕ) {v : Verdict} → at + 2 * count ≤ length feed → j < count →
      v ≡ check_pair class (at + 2 * j) (before feed at j) (pair_from feed (at + 2 * j)) → v then pairs_left feed class at count (j + 1) ≡ pairs_left feed class at count j
  unfolding before check_pairs
  pairs-turn j h l a =
      let k : at + 2 * j + 1 < length feed = omega arith in
      let e : count - j ≡ suc (count - (j + 1)) = omega arith in
      let d : at + 2 * (j + 1) ≡ at + 2 * j + 2 = omega arith in
      rw (a, e, pairs-cons (at + 2 * j) feed k, d, add-one j)

  pub pairs_end : (j : ℕ) → count ≤ j → accepted ≡ pairs_left feed class at count j
  unfolding check_pairs
  pairs_end j h = let e : count - j ≡ 0 = omega arith in rw e
