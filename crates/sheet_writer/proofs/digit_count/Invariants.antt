-- `sheet_writer::digit_count` meets its contract: each turn passes one digit. Assumes nothing.
use Rattle.sheet_writer.proofs.Digits.{Counting}
use Rattle.sheet_writer.proofs.digit_count.Given as goal

abbrev pub invariant-loop-m : goal.invariant-loop-m
invariant-loop-m l = Counting l.n l.m l.c

abbrev pub decreases-loop-m : goal.decreases-loop-m
decreases-loop-m l = l.m
