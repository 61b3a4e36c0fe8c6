-- Clearing: text from the start of a slice that fits, and zeros throughout where it does not.
--
-- In order: the whole text; a text, once it is written, that fits or does not. Assumes nothing.
use Prim.Native.Nat.{ℕ, ◌+◌, ◌<◌, ◌≤◌}
use native.Mathlib.Omega.{arith}
use native.Mathlib.Decide.{dec_lt}
use mathlib.Core.Bool.{Bool, true, cond}
use mathlib.Core.Path.{◌≡◌, ◌∙◌}
use mathlib.Core.List.{List, ◌++◌}
use lib.Dec.{leb}
use lib.ListN.{length, drop, replicate}
use lib.Seq.{sets-eq}
use borrow.Author.Tests.{le-leb, lt-leb}
use Rattle.tables.proofs.Tests.{true-not-false}
use Rattle.sheet_writer.specs.inner.Written.{Put, Fits}
use Rattle.sheet_writer.proofs.Putting.{put-size}

pub put_whole : {before after text : List ℕ} {r : ℕ} → Put before after 0 text r → length text ≤ length before → after ≡ text ++ drop (length text) before
put_whole {before} {after} {text} p h =
    let z : 0 + length text ≡ length text = omega arith in
    p.bytes ∙ sets-eq text before 0 (omega arith) ∙ rw z

-- ---- a text, once it is written

-- the whole text, where it fits; else zeros
pub record Ended (before after text : List ℕ) (at : ℕ) (r : Bool) : Type 0 where
  pub told : r ≡ leb (length text) (length before)
  pub place : r ≡ true → at ≡ length text
  pub bytes : after ≡ cond r (text ++ drop (length text) before) (replicate (length before) 0)

pub put_ended : {before mid after text : List ℕ} {at : ℕ} {r : Bool} → Put before mid 0 text at → Fits mid after at r → Ended before after text at r
put_ended {before} {mid} {after} {text} {at} {r} p f =
    by (dec_lt (length before) (length text))
  where
    by : Dec (length before < length text) → Ended before after text at r
    by (yes h) =
        let s = put-size p in
        let c = p.count in
        let t = f.told ∙ lt-leb at (length mid) (omega arith) in
        record { told = t ∙ rw (lt-leb (length text) (length before) h); place = λ e. absurd (true-not-false e t); bytes = f.bytes ∙ rw (t, s) }
    by (no h) =
        let s = put-size p in
        let c = p.count in
        let k : length text ≤ length before = omega arith in
        let t = f.told ∙ le-leb at (length mid) (omega arith) in
        record { told = t ∙ rw (le-leb (length text) (length before) k); place = λ e. omega arith; bytes = f.bytes ∙ rw t (put_whole p k) }
