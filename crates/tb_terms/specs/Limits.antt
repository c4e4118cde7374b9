-- The limits of the quantities that a term depends on.
use Rattle.std.specs.Prelude.{ℕ, ◌^◌, ◌<◌, ◌≤◌, ℤ, unsigned_abs}
use Rattle.tb_detail.specs.declared.limits.TheConstants.{MOST_CONDUCTIVITY, MOST_LENGTH, MOST_RESISTANCE}

-- a thermal conductivity in 10⁻⁴ W/(m·K)
pub record IsConductivity (n : ℕ) : Type 0 where
  pub above_zero : 0 < n
  pub at_most : n ≤ MOST_CONDUCTIVITY

-- a surface resistance in 10⁻⁴ m²K/W
pub record IsResistance (n : ℕ) : Type 0 where
  pub above_zero : 0 < n
  pub at_most : n ≤ MOST_RESISTANCE

-- a width in 0.1 mm
pub record IsWidth (n : ℕ) : Type 0 where
  pub above_zero : 0 < n
  pub at_most : n ≤ MOST_LENGTH

-- a difference of temperatures in 10⁻⁸
pub record IsDifference (z : ℤ) : Type 0 where
  pub at_most : unsigned_abs z ≤ 10 ^ 8

-- a heat flow in nW
pub record IsFlow (z : ℤ) : Type 0 where
  pub at_most : unsigned_abs z ≤ 10 ^ 12
