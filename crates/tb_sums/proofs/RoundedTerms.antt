-- A term rounded up, from its numerator and denominator.
use Rattle.std.proofs.Common.{◌≡◌, sym, ℕ, ◌<◌, ◌≤◌, ℤ, pos, negsuc, ◌≤ℤ◌, arith}
use Rattle.std.proofs.lemmas.Int.{ints}
use Rattle.std.specs.Int.{div_ceil}
use lib.IntN.{nat_abs}
use Rattle.tb_math.specs.Rational.{ℚ, int, ◌*ℚ◌, ◌≤ℚ◌}
use Rattle.tb_math.specs.Ceiling.{ceiling, quotient_up}
use Rattle.tb_math.proofs.CeilingLaws.{ceiling-int, ceiling-mono}
use Rattle.tb_terms.proofs.Quotients.{quotient-rounded_up}

pub rounded_term : (q : ℚ) (n : ℤ) (d : ℕ) → pos 0 ≤ℤ n → 0 < d → int n ≡ int (pos d) *ℚ q → pos (div_ceil (nat_abs n) d) ≡ ceiling q
unfolding quotient_up
rounded_term q (pos a) d h l e = sym (quotient-rounded_up q (pos a) d (record { positive = l; value = e }))
rounded_term q (negsuc a) d h l e = absurd (omega (arith, ints))

pub at_most : (c greatest : ℕ) (q : ℚ) → pos c ≡ ceiling q → q ≤ℚ int (pos greatest) → c ≤ greatest
at_most c greatest q e h = let m = ceiling-mono q (int (pos greatest)) h in let i = ceiling-int (pos greatest) in omega (arith, ints, m, i, e)
