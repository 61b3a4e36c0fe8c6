-- Passing: a table whose pairs are all as they must be, found at one go.
--
-- In order: small pairs; a pair above another, by their numbers; the pairs passed so far; the check of a table whose pairs are all as they must be.
-- Assumes nothing.
use mathlib.Core.Path.{◌≡◌, refl, sym, ◌∙◌}
use mathlib.Core.Bool.{Bool, true, false, ◌&&◌}
use mathlib.Core.List.{List, [], ◌∷◌}
use Prim.Native.Nat.{ℕ, zero, suc, ◌+◌, ◌*◌, ◌-◌, ◌<◌, ◌≤◌}
use native.Mathlib.Omega.{arith}
use native.Mathlib.Decide.{dec_lt}
use lib.Dec.{leb, ltb}
use lib.ListN.{length, take, drop}
use borrow.Author.Tests.{lt-ltb}
use Rattle.limits.specs.Limits.{largest_object}
use Rattle.tables.specs.declared.Pair.{Pair}
use Rattle.tables.specs.Order.{compare_pair, is_less}
use Rattle.tables.specs.inner.Packing.{packed}
use Rattle.std.proofs.Math.Nat.{mod-eq_of_lt}
use Rattle.answers.specs.Verdict.{accepted, ◌then◌}
use Rattle.tables.proofs.Pairs.{left_below, left-same}
use Rattle.tables.proofs.Tests.{both_true, leb-is, ltb-is}
use Rattle.feed.specs.Feed.{pairs_of, above, check_pairs}
use Rattle.feed.specs.inner.Parts.{pair_from, before, Ordered, Even, Small, Packed, AllOrdered, AllEven, Passes}
use Rattle.feed.proofs.Pairs.{before-one, pair-passes, pairs_left, pairs_start, pairs-turn, pairs_end}

-- ---- small pairs

abbrev is_small : Pair → Bool
is_small p = leb p.left largest_object && leb p.right largest_object

is-small : (p : Pair) → is_small p ≡ true → Small p
is-small p e =
    let k = (both_true (leb p.left largest_object) (leb p.right largest_object)).0 e in
    record { left = (leb-is p.left largest_object).0 k.0; right = (leb-is p.right largest_object).0 k.1 }

is-ordered : (b : List Pair) (p : Pair) → Small p → above b p ≡ true → Ordered b p ≡ true
is-ordered b p s a =
    let l = (leb-is p.left largest_object).1 s.left in
    let r = (leb-is p.right largest_object).1 s.right in
    rw (l, r, a)

ordered-small : (b : List Pair) (p : Pair) → Ordered b p ≡ true → Small p
ordered-small b p e = is-small p ((both_true (is_small p) (above b p)).0 e).0

-- ---- a pair above another, by their numbers

below-by-number : (p q : Pair) → Small p → Small q → p.left * 65536 + p.right < q.left * 65536 + q.right → is_less (compare_pair p q) ≡ true
below-by-number p q s t h = step (dec_lt p.left q.left)
  where
    step : Dec (p.left < q.left) → is_less (compare_pair p q) ≡ true
    step (yes d) = sym (left_below p q d)
    step (no d) =
        let a = s.right in
        let b = t.right in
        let e : p.left ≡ q.left = omega arith in
        sym (left-same p q e) ∙ lt-ltb p.right q.right (omega arith)

-- ---- the pairs passed so far

-- a small pair as one number
pub packed_small : {p : Pair} {n : ℕ} → n ≡ packed p → Packed p n
unfolding packed
packed_small {p} e = record { is = λ h. let l = h.left in let r = h.right in e ∙ rw (mod-eq_of_lt {n = p.left} {m = 65536} (omega arith), mod-eq_of_lt {n = p.right} {m = 65536} (omega arith)) refl }

-- the flag for the first j pairs, and the number of the last of them
pub record Passing (feed : List ℕ) (at j : ℕ) (good : Bool) (last : ℕ) : Type 0 where
  pub some : 1 ≤ j
  pub ordered : AllOrdered feed at j good
  pub number : Packed (pair_from feed (at + 2 * j - 2)) last

pub passing-first : {feed : List ℕ} {at : ℕ} {p : Pair} {b : Bool} {m : ℕ} → p ≡ pair_from feed at → b ≡ is_small p → Packed p m → Passing feed at 1 b m
unfolding before above
passing-first {feed} {at} {p} {b} {m} d e n =
    record {
      some = omega arith;
      ordered = record {
        passes = λ h j l.
            let z : j ≡ 0 = omega arith in
            let w : at + 2 * 0 ≡ at = omega arith in
            rw (z, w) (is-ordered [] (pair_from feed at) (is-small (pair_from feed at) (rw d at (sym e ∙ h))) refl);
      };
      number = let w : at + 2 * 1 - 2 ≡ at = omega arith in rw w (rw d at n);
    }

module _ {feed : List ℕ} {at j : ℕ} {good : Bool} {last : ℕ} (c : Passing feed at j good last) where
  -- one more pair p, of that number
  pub passing-next : {p : Pair} {b : Bool} {n : ℕ} → p ≡ pair_from feed (at + 2 * j) → b ≡ is_small p → Packed p n → Passing feed at (j + 1) (good && b && ltb last n) n
  unfolding above
  passing-next {p} {b} {n} d e f =
      record {
        some = omega arith;
        ordered = record { passes = λ h i u. step i u ((both_true (good && b) (ltb last n)).0 h) (dec_lt i j) };
        number = let w : at + 2 * (j + 1) - 2 ≡ at + 2 * j = omega arith in rw w (rw d at f);
      }
    where
      one : Pair
      one = pair_from feed (at + 2 * j - 2)

      two : Pair
      two = pair_from feed (at + 2 * j)

      small : good ≡ true → Small one
      small g =
          let l = c.some in
          let z : at + 2 * (j - 1) ≡ at + 2 * j - 2 = omega arith in
          ordered-small (before feed at (j - 1)) one (rw z at (c.ordered.passes g (j - 1) (omega arith)))

      newest : good ≡ true → b ≡ true → last < n → Ordered (one ∷ []) two ≡ true
      newest g k l =
          let s = small g in
          let t = is-small two (rw d at (sym e ∙ k)) in
          let q : Packed two n = rw d at f in
          is-ordered (one ∷ []) two t (below-by-number one two s t (omega (arith, c.number.is s, q.is t)))

      step : (i : ℕ) → i < j + 1 → (good && b ≡ true) × (ltb last n ≡ true) → Dec (i < j) → Ordered (before feed at i) (pair_from feed (at + 2 * i)) ≡ true
      step i u k (yes o) = c.ordered.passes ((both_true good b).0 k.0).0 i o
      step i u k (no o) =
          let l = c.some in
          let z : i ≡ j = omega arith in
          let g = (both_true good b).0 k.0 in
          rw (z, before-one feed at j (λ n. omega arith)) (newest g.0 g.1 ((ltb-is last n).0 k.1))

-- ---- the check of the table

module _ (feed : List ℕ) (at count : ℕ) (inside : at + 2 * count ≤ length feed) where
  module _ (class : Bool) (o : (j : ℕ) → j < count → Ordered (before feed at j) (pair_from feed (at + 2 * j)) ≡ true)
      (e : (j : ℕ) → j < count → Even class (pair_from feed (at + 2 * j)) ≡ true) where
    all_left : (n j : ℕ) → j + n ≡ count → pairs_left feed class at count j ≡ accepted
    unfolding ◌then◌
    all_left zero j h = sym (pairs_end feed class at count j (omega arith))
    all_left (suc n) j h =
        let l : j < count = omega arith in
        sym (pairs-turn feed class at count j inside l (pair-passes class (at + 2 * j) (before feed at j) (pair_from feed (at + 2 * j)) true (sym (o j l)) (e j l)))
        ∙ all_left n (j + 1) (omega arith)

    all-accepted : check_pairs class at [] (take count (pairs_of (drop at feed))) ≡ accepted
    all-accepted = sym (pairs_start feed class at count) ∙ all_left count 0 (omega arith)

  pub labels-pass : {class a : Bool} → class ≡ false → AllOrdered feed at count a → Passes feed class at count a
  labels-pass {class} f o = record { accepts = λ h. all-accepted class (o.passes h) (λ j l. rw f) }

  pub classes-pass : {class a b : Bool} → class ≡ true → AllOrdered feed at count a → AllEven feed at count b → Passes feed class at count (a && b)
  classes-pass {class} {a} {b} t o e =
      record {
        accepts = λ h.
            let k = (both_true a b).0 h in
            all-accepted class (o.passes k.0) (λ j l. rw t (e.passes k.1 j l));
      }
