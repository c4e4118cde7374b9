-- Rounding up: the ceiling of a rational number q is the one whole number c with q ≤ c < q + 1.
use mathlib.Core.Path.{◌≡◌}
use mathlib.Core.Quot.{lift}
use Prim.Native.Nat.{ℕ, suc, ◌+◌, ◌*◌, ◌/◌, ◌≤◌, ◌<◌}
use native.Mathlib.Omega.{arith}
use Rattle.std.specs.Int.{div_ceil}
use Rattle.std.proofs.Math.Nat.{div-mul-le_self, lt-div-mul-add}
use Rattle.std.proofs.lemmas.Grind.{div_ceil_times}
use Rattle.std.proofs.lemmas.Int.{ints, by_lt_z}
use lib.IntN.{ℤ, pos, negsuc, ◌+ℤ◌, ◌*ℤ◌, neg_ℤ, ℤ_set, *ℤ_comm}
use lib.Signed.{◌≤ℤ◌, ◌<ℤ◌}
use Rattle.tb_math.specs.Integers.{dist_l, neg-mul, turn, mul_le, cancel_le, le_antisym, pos-nonneg}
use Rattle.tb_math.specs.Fraction.{Fraction, ◌≈◌, ◌≼◌}
use Rattle.tb_math.specs.FractionEquality.{≈→≼, ≈-sym}
use Rattle.tb_math.specs.Rational.{ℚ, int, ◌+ℚ◌, ◌≤ℚ◌, ◌<ℚ◌, neg_ℚ}

-- z / n rounded up, for a positive n
unfoldable pub quotient_up : ℤ → ℕ → ℤ
quotient_up (pos a) n = pos (div_ceil a n)
quotient_up (negsuc a) n = neg_ℤ (pos (suc a / n))

-- c is n / d rounded up, for d above 0: c times d is at least n, by less than d
pub record RoundsUp (n d c : ℤ) : Type 0 where
  pub at_least : n ≤ℤ (c *ℤ d)
  pub near : (c *ℤ d) <ℤ (n +ℤ d)

-- c is n / d rounded down, for d above 0: c times d is at most n, by less than d
pub record RoundsDown (n d c : ℤ) : Type 0 where
  pub at_most : (c *ℤ d) ≤ℤ n
  pub near : n <ℤ (c *ℤ d +ℤ d)

pub quotient_up-rounds : (z : ℤ) (n : ℕ) → 0 < n → RoundsUp z (pos n) (quotient_up z n)
unfolding quotient_up
quotient_up-rounds (pos a) n h = let t = div_ceil_times a n h in positive (div_ceil a n) t.0 t.1
  where
    positive : (c : ℕ) → a ≤ c * n → c * n < a + n → RoundsUp (pos a) (pos n) (pos c)
    positive c l m = record { at_least = omega (arith, ints, l); near = omega (arith, ints, m) }
quotient_up-rounds (negsuc a) n h = negative (suc a / n) (div-mul-le_self (suc a) n) (lt-div-mul-add {a = suc a} {b = n} h)
  where
    negative : (c : ℕ) → c * n ≤ suc a → suc a < c * n + n → RoundsUp (negsuc a) (pos n) (neg_ℤ (pos c))
    negative c l m = let e = neg-mul (pos c) (pos n) in record { at_least = omega (arith, ints, l, e); near = omega (arith, ints, m, e) }

-- rounding keeps the order of fractions
pub rounds_up-le : (x y : Fraction) (c d : ℤ) → x ≼ y → RoundsUp x.numerator (pos x.denominator) c → RoundsUp y.numerator (pos y.denominator) d → c ≤ℤ d
rounds_up-le x y c d h k l = finish (cancel_le y.denominator (c *ℤ pos x.denominator +ℤ pos 1)
    (d *ℤ pos x.denominator +ℤ pos x.denominator) y.positive scaled)
  where
    scaled : (pos y.denominator *ℤ (c *ℤ pos x.denominator +ℤ pos 1)) ≤ℤ (pos y.denominator *ℤ (d *ℤ pos x.denominator +ℤ pos x.denominator))
    scaled = let p : (c *ℤ pos x.denominator +ℤ pos 1) ≤ℤ (x.numerator +ℤ pos x.denominator) = omega (arith, ints, k.near) in
        let q = mul_le (pos y.denominator) (c *ℤ pos x.denominator +ℤ pos 1) (x.numerator +ℤ pos x.denominator) (pos-nonneg y.denominator) p in
        let r = mul_le (pos x.denominator) y.numerator (d *ℤ pos y.denominator) (pos-nonneg x.denominator) l.at_least in
        let e1 = dist_l (pos y.denominator) x.numerator (pos x.denominator) in
        let e2 = dist_l (pos y.denominator) (d *ℤ pos x.denominator) (pos x.denominator) in
        let e3 = *ℤ_comm (pos y.denominator) x.numerator in
        let e4 = *ℤ_comm (pos x.denominator) y.numerator in
        let e5 = turn (pos x.denominator) d (pos y.denominator) in
        omega (arith, ints, q, r, e1, e2, e3, e4, e5, h.at_most)

    finish : (c *ℤ pos x.denominator +ℤ pos 1) ≤ℤ (d *ℤ pos x.denominator +ℤ pos x.denominator) → c ≤ℤ d
    finish s = by_lt_z d c (λ t. absurd (none t)) (λ t. t)
      where
        none : d <ℤ c → ⊥
        none t = let p : (d +ℤ pos 1) ≤ℤ c = omega (arith, ints, t) in
            let q = mul_le (pos x.denominator) (d +ℤ pos 1) c (pos-nonneg x.denominator) p in
            let e1 = dist_l (pos x.denominator) d (pos 1) in
            let e2 = *ℤ_comm (pos x.denominator) d in
            let e3 = *ℤ_comm (pos x.denominator) c in
            omega (arith, ints, q, s, e1, e2, e3)

pub quotient_up-le : (x y : Fraction) → x ≼ y → quotient_up x.numerator x.denominator ≤ℤ quotient_up y.numerator y.denominator
quotient_up-le x y h = rounds_up-le x y (quotient_up x.numerator x.denominator)
    (quotient_up y.numerator y.denominator) h (quotient_up-rounds x.numerator x.denominator x.positive)
    (quotient_up-rounds y.numerator y.denominator y.positive)

pub quotient_up-cong : (x y : Fraction) → x ≈ y → quotient_up x.numerator x.denominator ≡ quotient_up y.numerator y.denominator
quotient_up-cong x y e = le_antisym (quotient_up x.numerator x.denominator) (quotient_up y.numerator y.denominator) (quotient_up-le x y (≈→≼ e))
    (quotient_up-le y x (≈→≼ (≈-sym e)))

-- q rounded up to a whole number
unfoldable pub ceiling : ℚ → ℤ
ceiling q = lift ℤ_set (λ x. quotient_up x.numerator x.denominator) quotient_up-cong q

-- z is q, summed with `count` terms rounded up: never below it, and above it by less than the count
pub record RoundsTerms (count : ℕ) (q : ℚ) (z : ℤ) : Type 0 where
  pub above : q ≤ℚ int z
  pub below : int z ≤ℚ q +ℚ int (pos count)
  pub strictly : 0 < count → int z <ℚ q +ℚ int (pos count)

-- q rounded down to a whole number
unfoldable pub floor : ℚ → ℤ
floor q = neg_ℤ (ceiling (neg_ℚ q))
