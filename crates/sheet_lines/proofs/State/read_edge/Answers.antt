-- `sheet_lines::State::read_edge` meets its contract. Assumes nothing.
use mathlib.Core.Path.{sym}
use native.Mathlib.Omega.{arith}
use Rattle.sheet_lines.proofs.Tests.{edge-fields}
use Rattle.sheet_lines.proofs.Steps.{place-small, unread, label-unknown, source-unknown, target-unknown, edge-read}
use Rattle.sheet_lines.proofs.State.read_edge.Goals as goal

pub returns-in_err-label_name : goal.returns-in_err-label_name
returns-in_err-label_name c =
    rw c.from_residual.ensures (unread c.requires (edge-fields _ _ c.in_err-label_name.ensures))

pub returns-in_err-label : goal.returns-in_err-label
returns-in_err-label c =
    let l = c.in_err-label.ensures in
    rw c.from_residual-in_err-label.ensures (label-unknown c.requires c.in_ok-label_name.ensures (sym l.known))

pub overflow_cast-label : goal.overflow_cast-label
overflow_cast-label c =
    omega (arith, place-small c.args.self.now.labels.names c.in_ok-label.ensures)

pub returns-in_err-source : goal.returns-in_err-source
returns-in_err-source c =
    let l = c.in_ok-label.ensures in
    let s = c.in_err-source.ensures in
    rw c.from_residual-in_err-source.ensures (source-unknown c.requires c.in_ok-label_name.ensures (sym l.known) (sym s.known))

pub overflow_cast-source : goal.overflow_cast-source
overflow_cast-source c =
    omega (arith, place-small c.args.self.now.nodes c.in_ok-source.ensures)

pub returns-in_err-target : goal.returns-in_err-target
returns-in_err-target c =
    let l = c.in_ok-label.ensures in
    let s = c.in_ok-source.ensures in
    let t = c.in_err-target.ensures in
    rw c.from_residual-in_err-target.ensures (target-unknown c.requires c.in_ok-label_name.ensures (sym l.known) (sym s.known) (sym t.known))

pub overflow_cast-target : goal.overflow_cast-target
overflow_cast-target c =
    omega (arith, place-small c.args.self.now.nodes c.in_ok-target.ensures)

pub returns : goal.returns
returns c =
    let l = c.in_ok-label.ensures in
    let s = c.in_ok-source.ensures in
    let t = c.in_ok-target.ensures in
    let added = rw (l.place, s.place, t.place) at c.add_edge.ensures in
    edge-read c.requires c.in_ok-label_name.ensures (sym l.known) (sym s.known) (sym t.known) _ _ added _ c.ok.ensures.variant
