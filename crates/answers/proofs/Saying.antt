-- Saying: number and place of a verdict that is known. Assumes nothing.
use Prim.Native.Nat.{ℕ}
use mathlib.Core.Path.{◌≡◌, sym, ap, subst}
use Rattle.answers.specs.Verdict.{Verdict, accepted, refused, number, location, Says}

pub says-accepted : {v : Verdict} → v ≡ accepted → Says v 0 0
unfolding number location
says-accepted e = record { says = sym (ap number e); place = sym (ap location e) }

pub says-refused : {v : Verdict} {n p : ℕ} → v ≡ refused n p → Says v n p
unfolding number location
says-refused e = record { says = sym (ap number e); place = sym (ap location e) }

-- the same verdict, said in another way
pub says_same : {v w : Verdict} {n p : ℕ} → v ≡ w → Says v n p → Says w n p
says_same {n = n} {p = p} e s = subst (λ (x : Verdict). Says x n p) e s
