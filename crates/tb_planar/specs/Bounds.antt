-- Whole numbers below and above a number that isn't whole, and how they are added and divided.
use Rattle.std.specs.Prelude.{ℕ, ◌*◌, ◌^◌, ℤ, pos, ◌+ℤ◌, ◌*ℤ◌, ◌≤ℤ◌}
use Rattle.tb_math.specs.Rational.{ℚ, int, ◌≤ℚ◌}
use Rattle.tb_math.specs.Sums.{sum_to}
use Rattle.tb_numbers.specs.Quotients.{ceiling, floor}
use Rattle.tb_planar.specs.declared.bounds.Bounds.{Bounds}

-- the number lies within the bounds
pub record Encloses (b : Bounds) (q : ℚ) : Type 0 where
  pub above_low : int b.low ≤ℚ q
  pub below_high : q ≤ℚ int b.high

-- a whole number lies within itself
abbrev pub exactly : ℤ → Bounds
exactly z = record { low = z; high = z }

abbrev pub plus : Bounds → Bounds → Bounds
plus a b = record { low = a.low +ℤ b.low; high = a.high +ℤ b.high }

-- f 0 + f 1 + .. + f (n - 1)
abbrev pub total : ℕ → (ℕ → Bounds) → Bounds
total n f = sum_to (exactly (pos 0)) plus n f

-- n / d, between its floor and its ceiling
abbrev pub quotient : ℤ → ℤ → Bounds
quotient n d = record { low = floor n d; high = ceiling n d }

-- the quotient of n and a number above 0 within bounds
abbrev pub over : ℤ → Bounds → Bounds
over n b = record { low = floor n b.high; high = ceiling n b.low }

-- a number of times a number within bounds
abbrev pub times : ℕ → Bounds → Bounds
times k b = record { low = pos k *ℤ b.low; high = pos k *ℤ b.high }

-- a number within bounds, divided by n
abbrev pub divided : Bounds → ℕ → Bounds
divided b n = record { low = floor b.low (pos n); high = ceiling b.high (pos n) }

-- ---- sizes

-- bounds from 0 up to a number
pub record IsWithin (most : ℕ) (b : Bounds) : Type 0 where
  pub not_negative : pos 0 ≤ℤ b.low
  pub ordered : b.low ≤ℤ b.high
  pub at_most : b.high ≤ℤ pos most

-- a resistance from air to air, in 10⁻¹⁶ m²K/W: two surfaces of the least resistance at least, and at most
-- two of the greatest, with 16 layers of the greatest thickness and the least conductivity
pub record IsResistance (b : Bounds) : Type 0 where
  pub at_least : pos (2 * 10 ^ 12) ≤ℤ b.low
  pub ordered : b.low ≤ℤ b.high
  pub at_most : b.high ≤ℤ pos (10 ^ 23)

-- the transmittance of such a resistance, in fW/(m²·K)
pub record IsTransmittance (b : Bounds) : Type 0 where
  pub at_least : pos (10 ^ 8) ≤ℤ b.low
  pub ordered : b.low ≤ℤ b.high
  pub at_most : b.high ≤ℤ pos (5 * 10 ^ 18)
