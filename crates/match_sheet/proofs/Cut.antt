-- Cut: what follows the bytes that decide does not change a text. Assumes nothing.
use Prim.Native.Nat.{ℕ, ◌-◌, ◌≤◌}
use native.Mathlib.Omega.{arith}
use mathlib.Core.Path.{◌≡◌, sym, ap, ◌∙◌}
use mathlib.Core.List.{List}
use lib.ListN.{length, take}
use Rattle.sheet.specs.SheetQuery.{deciding_bytes}

-- a text that the bytes up to any number decide, once they are enough: of n bytes that were read, and of every input that they are read from
pub decided : (text : List ℕ → List ℕ) → ((s : List ℕ) (m : ℕ) → deciding_bytes ≤ m → text (take m s) ≡ text s) → (bytes : List ℕ) (n : ℕ) → deciding_bytes ≤ length bytes
    → (input : List ℕ) → take (length bytes) input ≡ take n bytes → text (take (n - 0) bytes) ≡ text input
decided text cut bytes n enough input e =
    let z : n - 0 ≡ n = omega arith in
    ap (λ (k : ℕ). text (take k bytes)) z ∙ ap text (sym e) ∙ cut input (length bytes) enough
