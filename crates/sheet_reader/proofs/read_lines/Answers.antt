-- `sheet_reader::read_lines` meets its contract. Assumes nothing.
use Rattle.sheet_reader.proofs.Lines.{too-long, lines-start, line-ready, line-passes, line-breaks, all-read, ends-early}
use Rattle.sheet_reader.proofs.read_lines.Goals as goal

pub returns-then-sheet-gt-SHEET_BYTES : goal.returns-then-sheet-gt-SHEET_BYTES
returns-then-sheet-gt-SHEET_BYTES c =
    too-long _ c.if-sheet-gt-SHEET_BYTES.true

pub loop-line-init : goal.loop-line-init
loop-line-init c =
    lines-start _ c.if-sheet-gt-SHEET_BYTES.false c.requires

pub read_line-requires : goal.read_line-requires
read_line-requires c =
    line-ready c.loop-line.invariant c.in-Some.ensures

pub returns-then-is_none : goal.returns-then-is_none
returns-then-is_none c =
    line-breaks c.loop-line.invariant c.in-Some.ensures c.read_line.ensures.shown (rw c.if-is_none.true at c.is_none.ensures)

pub loop-line-preserved : goal.loop-line-preserved
loop-line-preserved c =
    line-passes c.loop-line.invariant c.in-Some.ensures c.read_line.ensures.shown (rw c.if-is_none.false at c.is_none.ensures)

pub returns-then-ended-is_complete : goal.returns-then-ended-is_complete
returns-then-ended-is_complete c =
    all-read c.loop-line.invariant c.in_default.ensures (rw (c.is_empty-ended.ensures, c.is_complete.ensures) at c.if-ended-is_complete.true)

pub returns : goal.returns
returns c =
    ends-early c.loop-line.invariant c.in_default.ensures (rw (c.is_empty-ended.ensures, c.is_complete.ensures) at c.if-ended-is_complete.false)
