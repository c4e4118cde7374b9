use Rattle.std.proofs.Common.{rules, arith}
use Rattle.tb_numbers.proofs.Digits.{digits_step, number_step}
use Rattle.tb_numbers.proofs.parse.capped_digits.Goals as goal

pub loop-byte-preserved : goal.loop-byte-preserved
loop-byte-preserved c = record {
  fits = omega arith;
  digits = digits_step _ _ _ c.loop-byte-test.true (search rules) c.loop-byte.invariant.digits;
  so_far = number_step _ _ _ _ _ _ c.loop-byte-test.true (search rules) c.with_short_digit-number.ensures c.loop-byte.invariant.so_far;
}
