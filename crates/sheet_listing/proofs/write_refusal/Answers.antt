-- `sheet_listing::write_refusal` meets its contract: a word, two numbers and a line feed. Assumes nothing.
use mathlib.Core.Path.{refl}
use Rattle.sheet_text.specs.Text.{bytes}
use Rattle.sheet_writer.proofs.Putting.{put_same, put_then}
use Rattle.sheet_listing.proofs.Lines.{refusal-text}
use Rattle.sheet_listing.proofs.Ending.{finished-listed}
use Rattle.sheet_listing.proofs.write_refusal.Goals as goal

pub returns : goal.returns
unfolding bytes
returns c =
    finished-listed
    (put_same (refusal-text _ refl c.say-number.ensures)
    (put_then (put_then (put_then c.put_text-k.ensures c.put_field-n.ensures) c.put_field-p.ensures) c.put_byte-end.ensures))
    c.finish.ensures
