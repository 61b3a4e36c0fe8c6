-- The proof of the cycle of calls {put_number}: the digits of a tenth, then the last one. Assumes nothing.
use Rattle.std.proofs.Common.{arith}
use Rattle.sheet_writer.proofs.Putting.{put_same, put_then}
use Rattle.sheet_writer.proofs.Digits.{digits-one, digits_more}
use Rattle.sheet_writer.proofs.+put_number.Goals as goal

pub returns-then-n-lt10 : goal.returns-then-n-lt10
returns-then-n-lt10 t c = put_same (digits-one _ c.if-n-lt10.true) c.put_byte.ensures

pub returns : goal.returns
returns t c = put_same (digits_more _ c.if-n-lt10.false (omega arith)) (put_then c.put_number-k.ensures c.put_byte-2.ensures)
