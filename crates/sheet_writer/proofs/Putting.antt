-- Putting: text that is written from a place on, one piece behind the other.
--
-- In order: a run of stores; nothing, one byte, one piece behind another; `Putting`, text partly written, with its laws. Assumes nothing.
use Prim.Native.Nat.{ℕ, suc, ◌+◌, ◌<◌, ◌≤◌}
use native.Mathlib.Omega.{arith}
use native.Mathlib.Decide.{dec_lt}
use mathlib.Core.Path.{◌≡◌, refl, sym, ap, ◌∙◌}
use mathlib.Core.List.{List, [], ◌∷◌, ◌++◌, append_assoc, append-nil}
use lib.ListN.{length, set, length-append}
use lib.Seq.{sets, length-sets, set_out}
use Rattle.sheet_writer.specs.inner.Written.{Put}

-- ---- a run of stores

sets-out : (ws : List ℕ) (i : ℕ) (xs : List ℕ) → length ws ≤ i → sets ws i xs ≡ ws
sets-out ws i [] h = refl
sets-out ws i (x ∷ xs) h = rw (set_out ws i x h) (sets-out ws (suc i) xs (omega arith))

sets-append : (ws : List ℕ) (i : ℕ) (xs ys : List ℕ) → sets ws i (xs ++ ys) ≡ sets (sets ws i xs) (i + length xs) ys
sets-append ws i [] ys = let z : i + 0 ≡ i = omega arith in rw z
sets-append ws i (x ∷ xs) ys = let z : i + suc (length xs) ≡ suc i + length xs = omega arith in rw z (sets-append (set ws i x) (suc i) xs ys)

-- ---- what was written

pub put-nothing : (ws : List ℕ) (at : ℕ) → Put ws ws at [] at
put-nothing ws at = record { count = omega arith; bytes = refl }

pub put_one : (ws : List ℕ) (at b : ℕ) → Put ws (set ws at b) at (b ∷ []) (at + 1)
put_one ws at b = record { count = refl; bytes = refl }

-- without room
pub put-over : (ws : List ℕ) (at b : ℕ) → length ws ≤ at → Put ws ws at (b ∷ []) (length ws + 1)
put-over ws at b h = record { count = omega arith; bytes = sym (set_out ws at b h) }

pub put-size : {before after : List ℕ} {at r : ℕ} {xs : List ℕ} → Put before after at xs r → length after ≡ length before
put-size {before} {after} {at} {r} {xs} p = ap length p.bytes ∙ length-sets before at xs

pub put_same : {before after : List ℕ} {at r : ℕ} {xs ys : List ℕ} → xs ≡ ys → Put before after at xs r → Put before after at ys r
put_same e p = rw e at p

-- one piece behind the other
pub put_then : {before mid after : List ℕ} {at k r : ℕ} {xs ys : List ℕ} → Put before mid at xs k → Put mid after k ys r → Put before after at (xs ++ ys) r
put_then {before} {mid} {after} {at} {k} {r} {xs} {ys} p q =
    let s = put-size p in
    let c = p.count in
    let d = rw s at q.count in
    let l = length-append xs ys in
    record { count = omega arith; bytes = q.bytes ∙ ap (λ (ws : List ℕ). sets ws k ys) p.bytes ∙ behind (dec_lt (at + length xs) (length before)) ∙ sym (sets-append before at xs ys) }
  where
    behind : Dec (at + length xs < length before) → sets (sets before at xs) k ys ≡ sets (sets before at xs) (at + length xs) ys
    behind (yes h) = let c = p.count in let z : k ≡ at + length xs = omega arith in rw z
    behind (no h) =
        let c = p.count in
        let l = length-sets before at xs in
        sets-out (sets before at xs) k ys (omega arith) ∙ sym (sets-out (sets before at xs) (at + length xs) ys (omega arith))

-- ---- text partly written

-- k is reached, and `rest` is left of the text `all` that goes to the places from `at` on
pub record Putting (before after : List ℕ) (at : ℕ) (all rest : List ℕ) (k : ℕ) : Type 0 where
  pub done : List ℕ
  pub put : Put before after at done k
  pub whole : done ++ rest ≡ all

pub putting-start : (ws : List ℕ) (at : ℕ) (all : List ℕ) → Putting ws ws at all all at
putting-start ws at all = record { done = []; put = put-nothing ws at; whole = refl }

module _ {before after : List ℕ} {at : ℕ} {all : List ℕ} where
  -- what is left, said in another way
  pub putting-same : {rest rest' : List ℕ} {k : ℕ} → rest ≡ rest' → Putting before after at all rest k → Putting before after at all rest' k
  putting-same e p = rw e at p

  pub putting-some : {xs rest : List ℕ} {k r : ℕ} {new : List ℕ} → Putting before after at all (xs ++ rest) k → Put after new k xs r
      → Putting before new at all rest r
  putting-some {xs} {rest} p q =
      record { done = p.done ++ xs; put = put_then p.put q; whole = append_assoc p.done xs rest ∙ p.whole }

  pub putting-byte : {b : ℕ} {rest : List ℕ} {k r : ℕ} {new : List ℕ} → Putting before after at all (b ∷ rest) k → Put after new k (b ∷ []) r
      → Putting before new at all rest r
  putting-byte {b} p q = putting-some {xs = b ∷ []} p q

  pub putting-end : {k : ℕ} → Putting before after at all [] k → Put before after at all k
  putting-end p = put_same (sym (append-nil p.done) ∙ p.whole) p.put

  -- the last piece
  pub putting-last : {xs : List ℕ} {k r : ℕ} {new : List ℕ} → Putting before after at all xs k → Put after new k xs r → Put before new at all r
  putting-last {xs} p q = put_same p.whole (put_then p.put q)
