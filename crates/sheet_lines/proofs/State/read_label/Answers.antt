-- `sheet_lines::State::read_label` meets its contract. Assumes nothing.
use Rattle.sheet_lines.proofs.Tests.{label-fields}
use Rattle.sheet_lines.proofs.Steps.{unread, label-unread, label-linable, label-read}
use Rattle.sheet_lines.proofs.State.read_label.Goals as goal

pub returns-in_err-name : goal.returns-in_err-name
returns-in_err-name c =
    rw c.from_residual.ensures (unread c.requires (label-fields _ _ c.in_err-name.ensures))

pub returns-then-not-fits : goal.returns-then-not-fits
returns-then-not-fits c =
    label-unread c.requires c.in_ok-name.ensures
    (rw (c.is_label_name.ensures, c.clashes.ensures, c.fits.ensures, c.is_number.ensures, c.is_number-2.ensures) at c.if-not-fits.true)

pub add-requires : goal.add-requires
add-requires c =
    label-linable c.requires c.in_ok-name.ensures
    (rw (c.is_label_name.ensures, c.clashes.ensures, c.fits.ensures, c.is_number.ensures, c.is_number-2.ensures) at c.if-not-fits.false)

pub returns : goal.returns
returns c =
    label-read c.requires c.in_ok-name.ensures
    (rw (c.is_label_name.ensures, c.clashes.ensures, c.fits.ensures, c.is_number.ensures, c.is_number-2.ensures) at c.if-not-fits.false) _
    c.value_of-left.ensures c.value_of-right.ensures c.add.ensures
