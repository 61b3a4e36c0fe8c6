-- Refusing: a call that refuses, and one that accepts; that refusing ends a chain of checks.
--
-- In order: that a refusal refuses; whether a verdict accepts; a check after a result, each way; what a `?` hands on; two results in turn. Assumes nothing.
use Rattle.std.proofs.Common.{◌≡◌, refl, sym, ap, false}
use Rattle.std.specs.Prelude.{Result, Ok, Err, is_ok}
use Rattle.std.specs.Result.{IsErrAnd, result_and}
use Rattle.answers.specs.Verdict.{Verdict, ◌then◌, is_accepted}
use Rattle.answers.specs.Answers.{verdict_of, refusal_of}
use Rattle.answers.specs.declared.Refusal.{Refusal}
use Rattle.answers.specs.declared.Refusal.TheVariants.{FeedLength, Ceiling, Ascent, Sides, DrawingLength, Missing, Unpicked, ListLength, UnknownKind, Full, Large, TooMany, Short, Breach, TooWide, Operand, Unused}
use Rattle.answers.proofs.Verdict.{refused-first}

pub refuses : (r : Refusal) → is_accepted (refusal_of r) ≡ false
unfolding is_accepted
refuses FeedLength = refl
refuses (Ceiling p) = refl
refuses (Ascent p) = refl
refuses (Sides p) = refl
refuses DrawingLength = refl
refuses (Missing p) = refl
refuses Unpicked = refl
refuses ListLength = refl
refuses (UnknownKind p) = refl
refuses (Full i) = refl
refuses (Large i) = refl
refuses TooMany = refl
refuses (Short m) = refl
refuses (Breach line) = refl
refuses TooWide = refl
refuses (Operand p) = refl
refuses (Unused p) = refl

-- a result is `Ok` where its verdict accepts
pub accepts : {T : Type 0} (a : Result T Refusal) → is_accepted (verdict_of a) ≡ is_ok a
unfolding is_accepted verdict_of
accepts (Ok x) = refl
accepts (Err r) = refuses r

-- a check after a result: one that accepts leaves the verdict to it, a refusal stands
pub leaves : {T : Type 0} (a : Result T Refusal) {x : T} (v : Verdict) → a ≡ Ok x → v ≡ verdict_of a then v
unfolding verdict_of ◌then◌
leaves a v e = rw e

pub stands : {T : Type 0} (a : Result T Refusal) {r : Refusal} (v : Verdict) → a ≡ Err r → refusal_of r ≡ verdict_of a then v
unfolding verdict_of
stands a {r} v e = rw e (sym (refused-first (refusal_of r) v (refuses r)))

-- what a `?` hands on
pub handed : {T : Type 0} (a : Result T Refusal) (r : Refusal) → IsErrAnd a (λ (d : Refusal). d ≡ r) → verdict_of a ≡ refusal_of r
unfolding verdict_of
handed (Ok x) r h = absurd h
handed (Err d) r h = ap refusal_of h

-- two results in turn
pub both : {T U : Type 0} (a : Result T Refusal) (b : Result U Refusal) → verdict_of (result_and a b) ≡ verdict_of a then verdict_of b
unfolding verdict_of ◌then◌
both (Ok x) b = refl
both (Err r) b = sym (refused-first (refusal_of r) (verdict_of b) (refuses r))
