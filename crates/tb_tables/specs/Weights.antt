-- Weights as quotients of whole numbers, and the limits of a cross-section.
use Rattle.std.specs.Prelude.{ℕ, zero, suc, ◌*◌, ◌/◌, ◌<◌, ◌≤◌}
use Rattle.tb_detail.specs.declared.limits.TheConstants.{MOST_LENGTH}

-- the area of a cross-section, in 10⁻⁸ m²
pub record IsArea (n : ℕ) : Type 0 where
  pub above_zero : 0 < n
  pub at_most : n ≤ MOST_LENGTH * MOST_LENGTH

abbrev pub at_least_one : ℕ → ℕ
at_least_one zero = 1
at_least_one (suc n) = suc n

-- n / d rounded down, at least 1
abbrev pub rounded_weight : ℕ → ℕ → ℕ
rounded_weight n d = at_least_one (n / d)
