-- Adding: the lines of classes or labels, and one line more.
--
-- Assumes nothing.
use mathlib.Core.Path.{◌≡◌, ap, ◌∙◌}
use mathlib.Core.List.{List}
use Prim.Native.Nat.{ℕ, ◌+◌, ◌<◌}
use native.Mathlib.Omega.{arith}
use native.Mathlib.Numerals.{add-one}
use lib.ListN.{length, set, length-append}
use lib.Seq.{take-suc-set, length-take-le}
use Rattle.tables.specs.declared.Pair.{Pair}
use Rattle.sheet_text.specs.inner.Parts.{names_of}
use Rattle.sheet_lines.specs.declared.entries.Tables.{Tables}
use Rattle.sheet_lines.specs.Reading.{with_line, numbered}
use Rattle.sheet_lines.specs.inner.Lines.{most_lines}
use Rattle.sheet_lines.specs.inner.State.{tables_read, Numbered}

pub length-lines : (t : Tables) → length (tables_read t).lines ≡ t.lines
unfolding tables_read
length-lines t = length-take-le t.lines t.entries (omega (arith, t.few, t.size))

pub added : {name : List ℕ} {x y : Tables} {k : ℕ} → Numbered name x y k → (p : Pair) (z : Tables) → z.names ≡ y.names → z.entries ≡ set y.entries y.lines (record { table = k; entry = p }) →
    z.lines ≡ y.lines + 1 → x.lines < most_lines → tables_read z ≡ with_line name p (tables_read x)
unfolding tables_read with_line
added {x = x} {k = k} n p z a b c h =
    let room : x.lines < length x.entries = omega (arith, x.size) in
    rw (a, b, c, n.names, n.entries, n.lines, add-one, take-suc-set x.entries x.lines (record { table = k; entry = p }) room, n.place)

module _ (name : List ℕ) (p : Pair) (x y : Tables) (e : tables_read y ≡ with_line name p (tables_read x)) where
  pub names-after : names_of y.names ≡ numbered name (names_of x.names)
  unfolding tables_read with_line
  names-after = ap (λ t. t.names) e

  pub lines-after : length (tables_read y).lines ≡ length (tables_read x).lines + 1
  unfolding with_line
  lines-after = ap (λ t. length t.lines) e ∙ length-append (tables_read x).lines _
