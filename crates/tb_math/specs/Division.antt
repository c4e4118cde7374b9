-- The inverse of a rational number and the quotient of two; the inverse of 0 is 0.
use mathlib.Core.Path.{◌≡◌}
use mathlib.Core.Quot.{mk, sound, lift}
use Prim.Native.Nat.{ℕ, zero, suc, ◌<◌}
use native.Mathlib.Omega.{arith}
use Rattle.std.proofs.lemmas.Int.{ints}
use lib.IntN.{ℤ, pos, negsuc, ◌*ℤ◌, neg_ℤ}
use Rattle.tb_math.specs.Integers.{neg-mul}
use Rattle.tb_math.specs.Fraction.{suc_positive, Fraction, ◌≈◌, whole}
use Rattle.tb_math.specs.FractionEquality.{≈-refl}
use Rattle.tb_math.specs.Rational.{ℚ, ℚ_set, ◌*ℚ◌}

infixl 7 ◌/ℚ◌
-- n / z, with its sign above; 0 for z = 0
abbrev pub upside_down : ℤ → ℕ → Fraction
upside_down (pos zero) n = whole (pos 0)
upside_down (pos (suc k)) n = record { numerator = pos n; denominator = suc k; positive = suc_positive k }
upside_down (negsuc k) n = record { numerator = neg_ℤ (pos n); denominator = suc k; positive = suc_positive k }

pub upside_down-cong : (z w : ℤ) (n m : ℕ) → 0 < n → 0 < m → z *ℤ pos m ≡ w *ℤ pos n → upside_down z n ≈ upside_down w m
upside_down-cong (pos zero) (pos zero) n m h k e = ≈-refl (whole (pos 0))
upside_down-cong (pos zero) (pos (suc l)) n m h k e = absurd (omega (arith, ints, h, e))
upside_down-cong (pos zero) (negsuc l) n m h k e = absurd (omega (arith, ints, h, e))
upside_down-cong (pos (suc j)) (pos zero) n m h k e = absurd (omega (arith, ints, k, e))
upside_down-cong (pos (suc j)) (pos (suc l)) n m h k e = record { same = omega (arith, ints, e) }
upside_down-cong (pos (suc j)) (negsuc l) n m h k e = absurd (omega (arith, ints, h, k, e))
upside_down-cong (negsuc j) (pos zero) n m h k e = absurd (omega (arith, ints, k, e))
upside_down-cong (negsuc j) (pos (suc l)) n m h k e = absurd (omega (arith, ints, h, k, e))
upside_down-cong (negsuc j) (negsuc l) n m h k e = let a = neg-mul (pos n) (pos (suc l)) in let b = neg-mul (pos m) (pos (suc j)) in
    let c = neg-mul (pos (suc j)) (pos m) in let d = neg-mul (pos (suc l)) (pos n) in
    record { same = omega (arith, ints, e, a, b, c, d) }

unfoldable pub inverse : ℚ → ℚ
inverse q = lift ℚ_set (λ x. mk (upside_down x.numerator x.denominator))
    (λ x y e. sound (upside_down-cong x.numerator y.numerator x.denominator y.denominator x.positive y.positive e.same)) q

abbrev pub ◌/ℚ◌ : ℚ → ℚ → ℚ
p /ℚ q = p *ℚ inverse q
