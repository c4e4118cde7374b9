-- What the terms of a Ψ or a χ take away from a coupling coefficient.
use Rattle.std.specs.Prelude.{ℕ, ◌<◌, ◌*◌, ◌^◌, List, length, slice_index_or, ℤ, pos, ◌*ℤ◌}
use Rattle.tb_math.specs.Rational.{ℚ, int, ratio, ◌*ℚ◌, ◌≤ℚ◌}
use Rattle.tb_math.specs.Sums.{total, total_ℤ}
use Rattle.tb_detail.specs.declared.LineTerm.{LineTerm}
use Rattle.tb_numbers.specs.Quotients.{ceiling, floor}
use Rattle.tb_planar.specs.Printed.{HoldsTransmittance}
use Rattle.tb_planar.specs.declared.URange.{URange}

-- a transmittance in fW/(m²·K) with the length in 0.1 mm or the area in cm² that it is multiplied with: 10⁻⁴ m or m²
abbrev pub PlanarTerm : Type 0
PlanarTerm = URange × ℕ

abbrev pub planar_term : List PlanarTerm → ℕ → PlanarTerm
planar_term terms i = slice_index_or terms i (record { lo = pos 0; hi = pos 0 }, 0)

abbrev pub line_term : List LineTerm → ℕ → LineTerm
line_term terms i = slice_index_or terms i (record { psi_lo = pos 0; psi_hi = pos 0; length = 0 })

-- ---- exact, in fW/K, for a transmittance or ψ in SI units

-- U·l, U·A or ψ·l
abbrev pub heat : ℚ → ℕ → ℚ
heat u amount = int (pos (10 ^ 15)) *ℚ u *ℚ ratio (pos amount) (10 ^ 4)

-- each transmittance is a value of its term's
abbrev pub HoldPlanar : List PlanarTerm → (ℕ → ℚ) → Type 0
HoldPlanar terms u = (i : ℕ) → i < length terms → HoldsTransmittance (planar_term terms i).0 (u i)

-- a ψ in W/(m·K) lies between the given ends, which are in µW/(m·K)
pub record HoldsPsi (t : LineTerm) (p : ℚ) : Type 0 where
  pub above_low : int t.psi_lo ≤ℚ int (pos (10 ^ 6)) *ℚ p
  pub below_high : int (pos (10 ^ 6)) *ℚ p ≤ℚ int t.psi_hi

abbrev pub HoldLines : List LineTerm → (ℕ → ℚ) → Type 0
HoldLines terms p = (i : ℕ) → i < length terms → HoldsPsi (line_term terms i) (p i)

abbrev pub planar_heat : List PlanarTerm → (ℕ → ℚ) → ℚ
planar_heat terms u = total (length terms) (λ i. heat (u i) (planar_term terms i).1)

abbrev pub line_heat : List LineTerm → (ℕ → ℚ) → ℚ
line_heat terms p = total (length terms) (λ i. heat (p i) (line_term terms i).length)

-- ---- in whole numbers, at least and at most

abbrev pub least_heat : PlanarTerm → ℤ
least_heat t = floor (pos t.1 *ℤ t.0.lo) (pos (10 ^ 4))

abbrev pub most_heat : PlanarTerm → ℤ
most_heat t = ceiling (pos t.1 *ℤ t.0.hi) (pos (10 ^ 4))

abbrev pub least_planar : List PlanarTerm → ℤ
least_planar terms = total_ℤ (length terms) (λ i. least_heat (planar_term terms i))

abbrev pub most_planar : List PlanarTerm → ℤ
most_planar terms = total_ℤ (length terms) (λ i. most_heat (planar_term terms i))

abbrev pub least_line : LineTerm → ℤ
least_line t = pos (t.length * 10 ^ 5) *ℤ t.psi_lo

abbrev pub most_line : LineTerm → ℤ
most_line t = pos (t.length * 10 ^ 5) *ℤ t.psi_hi

abbrev pub least_lines : List LineTerm → ℤ
least_lines terms = total_ℤ (length terms) (λ i. least_line (line_term terms i))

abbrev pub most_lines : List LineTerm → ℤ
most_lines terms = total_ℤ (length terms) (λ i. most_line (line_term terms i))
