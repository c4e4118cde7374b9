use Rattle.std.proofs.Common.{arith}
use Rattle.tb_numbers.proofs.Powers.{ten_at_most}
use Rattle.tb_numbers.proofs.parse.short_digits.Goals as goal

pub overflow_mul-number : goal.overflow_mul-number
overflow_mul-number c = omega (arith, c.loop-byte.invariant.fits, c.requires, ten_at_most c.loop-byte.byte-index 16 (omega arith))

pub overflow_add-number : goal.overflow_add-number
overflow_add-number c = omega (arith, c.loop-byte.invariant.fits, c.requires, ten_at_most c.loop-byte.byte-index 16 (omega arith))

pub returns-clause-small : goal.returns-clause-small
returns-clause-small c = omega (arith, c.loop-byte.invariant.fits, c.requires, ten_at_most c.loop-byte.byte-index 16 (omega arith))
