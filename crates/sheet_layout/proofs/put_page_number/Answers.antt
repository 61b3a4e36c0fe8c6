-- `sheet_layout::put_page_number` meets its contract: spaces, a word, a number and a line feed. Assumes nothing.
use Prim.Native.Nat.{ℕ, ◌+◌, ◌-◌}
use native.Mathlib.Omega.{arith}
use mathlib.Core.Path.{refl, ap, ◌∙◌}
use Rattle.limits.specs.Limits.{line_width}
use Rattle.sheet_text.specs.Text.{bytes}
use Rattle.sheet_writer.proofs.Digits.{word-digits}
use Rattle.sheet_writer.proofs.Putting.{put_same, put_then}
use Rattle.sheet_layout.proofs.Writing.{number_put}
use Rattle.sheet_layout.proofs.put_page_number.Goals as goal

pub overflow_add-width : goal.overflow_add-width
overflow_add-width c =
    let d = word-digits c.args.number in omega (arith, c.width.ensures)

pub returns : goal.returns
unfolding bytes
returns c =
    put_same (number_put _ refl (c.saturating_sub-spaces.ensures ∙ ap (λ (m : ℕ). line_width - (5 + m)) c.width.ensures))
    (put_then (put_then (put_then c.put_spaces-k.ensures c.put_text-m.ensures) c.put_number-e.ensures) c.put_byte.ensures)
