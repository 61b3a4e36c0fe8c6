-- Lines: the walk over all lines of a sheet. Reading the rest from here, in the state that was reached, is reading the sheet.
--
-- In order: an end of the walk; before the first line; a line; after the last line. Assumes nothing.
use mathlib.Core.Path.{◌≡◌, refl, ◌∙◌, sym, ap}
use mathlib.Core.Bool.{true, false, ◌&&◌}
use mathlib.Core.List.{List, [], ◌∷◌}
use Prim.Native.Nat.{ℕ, ◌+◌, ◌*◌, ◌<◌, ◌≤◌}
use native.Mathlib.Omega.{arith}
use lib.Dec.{eqb, eqb-suc-zero}
use lib.ListN.{length}
use borrow.Author.Tests.{le-leb}
use Rattle.std.specs.Prelude.{Ok, Err, Option as Maybe}
use Rattle.std.specs.Option.{is_some}
use Rattle.limits.specs.Limits.{most_bytes}
use Rattle.answers.specs.Answers.{verdict_of}
use Rattle.answers.specs.declared.Refusal.TheVariants.{Breach}
use Rattle.tables.proofs.Tests.{true-not-false}
use Rattle.sheet_text.specs.Text.{split}
use Rattle.sheet_text.specs.inner.Parts.{Apart}
use Rattle.sheet_text.specs.inner.Parts.{Whole as OnePart}
use Rattle.sheet_lines.specs.declared.State.{State}
use Rattle.sheet_lines.specs.Reading.{Reading, nothing, allow, read_line}
use Rattle.sheet_lines.specs.inner.State.{view_of, line_count, Empty, Fine, Ready, LineRead}
use Rattle.sheet_reader.specs.Sheet.{read, breach, finish, continue, ends_at, read_lines, read_sheet}
use Rattle.sheet_reader.specs.inner.Answers.{verdict_in, Scanned}
use Rattle.sheet_reader.proofs.Words.{sheet-long}

-- ---- an end

broken : {s : List ℕ} {x : State} {at : ℕ} → breach at ≡ read_sheet s → Scanned s x (Err (Breach at))
unfolding verdict_of verdict_in
broken e = record { verdict = rw (← e); whole = tt }

pub too-long : (s : List ℕ) {x : State} → most_bytes < length s → Scanned s x (Err (Breach 0))
too-long s h = broken (sym (sheet-long s h))

ended : (left : List ℕ) (v : Reading) (at : ℕ) → (eqb (length left) 0 && (eqb v.section 3 && v.opened)) ≡ true → read v ≡ ends_at at v left
unfolding ends_at finish
ended [] v at t = rw t
ended (b ∷ bs) v at t = absurd (true-not-false t (rw eqb-suc-zero))

stopped : (left : List ℕ) (v : Reading) (at : ℕ) → (eqb (length left) 0 && (eqb v.section 3 && v.opened)) ≡ false → breach at ≡ ends_at at v left
unfolding ends_at finish
stopped [] v at t = rw t
stopped (b ∷ bs) v at t = refl

-- ---- before the first line

-- line number `at` begins what is left of the sheet
pub record Going (s left : List ℕ) (at : ℕ) (x : State) : Type 0 where
  pub short : length s ≤ most_bytes
  pub early : at + length left ≤ length s + 1
  pub fine : Fine x
  pub lines : 4 * line_count x + length left ≤ length s
  pub rest : read_lines at (view_of x) (split 10 left).first (split 10 left).rest ≡ read_sheet s

no-lines : (x : State) → view_of x ≡ nothing → line_count x ≡ 0
unfolding view_of nothing
no-lines x e = let a = ap (λ v. length v.classes.lines) e in let b = ap (λ v. length v.labels.lines) e in omega arith

pub lines-start : (s : List ℕ) {x : State} → length s ≤ most_bytes → Empty x → Going s s 1 x
unfolding read_sheet
lines-start s {x} h e = record {
  short = h;
  early = omega arith;
  fine = e.fine;
  lines = omega (arith, no-lines x e.shows);
  rest = rw (e.shows, le-leb (length s) most_bytes h);
}

-- ---- a line

module _ {s rest : List ℕ} {at : ℕ} {x : State} (g : Going s rest at x) where
  module _ {line behind : List ℕ} (c : Apart 10 rest line behind) where
    pub line-ready : Ready line x
    line-ready = record { fine = g.fine; short = omega (arith, g.lines, g.short, c.size) }

    module _ {y : State} {r : Maybe (Unit {0})} (d : LineRead line x y r (λ v. read_line v line)) where
      one-line : continue at (allow (is_some r) (view_of y)) (λ v. read_lines (at + 1) v (split 10 behind).first (split 10 behind).rest) ≡ read_sheet s
      unfolding read_lines
      one-line = rw d.answer (rw c.parts at g.rest)

      pub line-passes : is_some r ≡ true → Going s behind (at + 1) y
      unfolding allow continue
      line-passes t = record {
        short = g.short;
        early = omega (arith, g.early, c.size);
        fine = d.fine;
        lines = omega (arith, g.lines, d.count, c.size);
        rest = rw t at one-line;
      }

      pub line-breaks : is_some r ≡ false → Scanned s y (Err (Breach at))
      unfolding allow continue
      line-breaks t = broken (rw t at one-line)

  -- ---- after the last line

  module _ (w : OnePart 10 rest) where
    at-end : ends_at at (view_of x) rest ≡ read_sheet s
    unfolding read_lines
    at-end = rw w at g.rest

    pub all-read : (eqb (length rest) 0 && (eqb (view_of x).section 3 && (view_of x).opened)) ≡ true → Scanned s x (Ok tt)
    unfolding verdict_of verdict_in
    all-read t = record { verdict = rw (← whole); whole = record { shown = sym whole; fine = g.fine; few = omega (arith, g.lines, g.short) } }
      where
        whole : read (view_of x) ≡ read_sheet s
        whole = ended rest (view_of x) at t ∙ at-end

    pub ends-early : (eqb (length rest) 0 && (eqb (view_of x).section 3 && (view_of x).opened)) ≡ false → Scanned s x (Err (Breach at))
    ends-early t = broken (stopped rest (view_of x) at t ∙ at-end)
