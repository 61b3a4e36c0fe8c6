-- `sheet_lines::State::read_node` meets its contract. Assumes nothing.
use mathlib.Core.Path.{sym}
use native.Mathlib.Omega.{arith}
use Rattle.sheet_lines.proofs.Tests.{node-fields}
use Rattle.sheet_lines.proofs.Steps.{place-small, unread, class-unknown, node-unread, node-refused, node-read}
use Rattle.sheet_lines.proofs.State.read_node.Goals as goal

pub returns-in_err-name : goal.returns-in_err-name
returns-in_err-name c =
    rw c.from_residual.ensures (unread c.requires (node-fields _ _ c.in_err-name.ensures))

pub returns-in_err-class : goal.returns-in_err-class
returns-in_err-class c =
    let k = c.in_err-class.ensures in
    rw c.from_residual-in_err-class.ensures (class-unknown c.requires c.in_ok-name.ensures (sym k.known))

pub overflow_cast-class : goal.overflow_cast-class
overflow_cast-class c =
    omega (arith, place-small c.args.self.now.classes.names c.in_ok-class.ensures)

pub returns-then-not-fits : goal.returns-then-not-fits
returns-then-not-fits c =
    let k = c.in_ok-class.ensures in
    node-unread c.requires c.in_ok-name.ensures (sym k.known)
    (rw (c.is_name.ensures, c.knows.ensures, c.is_number.ensures, c.is_number_or_dash.ensures) at c.if-not-fits.true)

pub returns-in_err-ok : goal.returns-in_err-ok
returns-in_err-ok c =
    let k = c.in_ok-class.ensures in
    let test = rw (c.is_name.ensures, c.knows.ensures, c.is_number.ensures, c.is_number_or_dash.ensures) at c.if-not-fits.false in
    let added = rw (k.place, c.value_of-pick.ensures, c.number_or_any-fixed.ensures) at c.add_node.ensures in
    let o = c.in_err-ok.ensures in
    rw c.from_residual-in_err-ok.ensures (node-refused c.requires c.in_ok-name.ensures (sym k.known) test _ _ added (sym o.variant))

pub returns : goal.returns
returns c =
    let k = c.in_ok-class.ensures in
    let test = rw (c.is_name.ensures, c.knows.ensures, c.is_number.ensures, c.is_number_or_dash.ensures) at c.if-not-fits.false in
    let added = rw (k.place, c.value_of-pick.ensures, c.number_or_any-fixed.ensures) at c.add_node.ensures in
    let o = c.in_ok-ok.ensures in
    node-read c.requires c.in_ok-name.ensures (sym k.known) test _ _ _ added (sym o.variant) c.add.ensures
