-- `sheet_lines::State::read_class` meets its contract. Assumes nothing.
use Rattle.sheet_lines.proofs.Tests.{class-fields}
use Rattle.sheet_lines.proofs.Steps.{unread, class-unread, class-linable, class-read}
use Rattle.sheet_lines.proofs.State.read_class.Goals as goal

pub returns-in_err-name : goal.returns-in_err-name
returns-in_err-name c =
    rw c.from_residual.ensures (unread c.requires (class-fields _ _ c.in_err-name.ensures))

pub returns-then-not-fits : goal.returns-then-not-fits
returns-then-not-fits c =
    class-unread c.requires c.in_ok-name.ensures (rw (c.is_name.ensures, c.fits.ensures, c.is_number.ensures) at c.if-not-fits.true)

pub add-requires : goal.add-requires
add-requires c =
    class-linable c.requires c.in_ok-name.ensures (rw (c.is_name.ensures, c.fits.ensures, c.is_number.ensures) at c.if-not-fits.false)

pub returns : goal.returns
returns c =
    class-read c.requires c.in_ok-name.ensures (rw (c.is_name.ensures, c.fits.ensures, c.is_number.ensures) at c.if-not-fits.false) _ c.value_of-value.ensures c.add.ensures
