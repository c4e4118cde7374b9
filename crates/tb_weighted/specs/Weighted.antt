-- The weighted energies: the two forms that steer the solver, in whole numbers. They occur in no bound.
use Rattle.std.specs.Prelude.{ℕ, zero, suc, ◌*◌, ◌^◌, ℤ, pos, negsuc, ◌+ℤ◌, ◌-ℤ◌, ◌*ℤ◌}
use Rattle.tb_math.specs.Rational.{ℚ, int, one_over, ◌-ℚ◌, ◌*ℚ◌}
use Rattle.tb_math.specs.Division.{◌/ℚ◌}
use Rattle.tb_math.specs.Ceiling.{floor}
use Rattle.tb_places.specs.Places.{along}
use Rattle.tb_model.specs.Mesh.{Mesh, cross_section}
use Rattle.tb_model.specs.Energy.{Case, Field, Flux, Terms, mesh_sum, spread_at, passage, boundary, entering_terms}

-- a weight is a whole number, at least 1
abbrev pub at_least_one : ℤ → ℤ
at_least_one (pos zero) = pos 1
at_least_one (pos (suc n)) = pos (suc n)
at_least_one (negsuc n) = pos 1

abbrev pub whole_weight : ℚ → ℤ
whole_weight x = at_least_one (floor x)

-- λ·b·c·2¹⁰/a, and b·c·10⁴·2¹⁰/Rs
abbrev pub field_weight : (conductivity width section : ℚ) → ℤ
field_weight conductivity width section = whole_weight (conductivity *ℚ section *ℚ int (pos (2 ^ 10)) /ℚ width)

abbrev pub surface_field_weight : (rs : ℕ) (section : ℚ) → ℤ
surface_field_weight rs section = whole_weight (section *ℚ int (pos (10 ^ 4 * 2 ^ 10)) *ℚ one_over rs)

-- a·2⁴⁴/(b·c·λ), and 3·Rs·2⁴⁴/(b·c·10⁴)
abbrev pub flux_weight : (conductivity width section : ℚ) → ℤ
flux_weight conductivity width section = whole_weight (width *ℚ int (pos (2 ^ 44)) /ℚ (section *ℚ conductivity))

abbrev pub surface_flux_weight : (rs : ℕ) (section : ℚ) → ℤ
surface_flux_weight rs section = whole_weight (int (pos (3 * rs * 2 ^ 44)) /ℚ (section *ℚ int (pos (10 ^ 4))))

abbrev pub weighted_field_terms : Mesh → Case → Field → Terms
weighted_field_terms m inside T = record {
  cell = λ a i j k conductivity. int (field_weight conductivity (m.width a i) (cross_section m a j k)) *ℚ spread_at (λ q r. along a T (suc i) q r -ℚ along a T i q r) j k;
  surface = λ a i j k environment rs low_is_air. int (surface_field_weight rs (cross_section m a j k)) *ℚ spread_at (λ q r. along a T i q r -ℚ boundary inside environment) j k;
}

abbrev pub weighted_flux_terms : Mesh → Flux → Terms
weighted_flux_terms m q = record {
  cell = λ a i j k conductivity. int (flux_weight conductivity (m.width a i) (cross_section m a j k)) *ℚ passage (along a (q a) i j k) (along a (q a) (suc i) j k);
  surface = λ a i j k environment rs low_is_air. int (surface_flux_weight rs (cross_section m a j k)) *ℚ (along a (q a) i j k *ℚ along a (q a) i j k);
}

-- The sum of terms that are whole: `floor` reads each.
abbrev pub whole_sum : Mesh → Terms → ℤ
whole_sum m t = mesh_sum (pos 0) ◌+ℤ◌ floor m t

unfoldable pub weighted_field : Mesh → Case → Field → ℤ
weighted_field m inside T = whole_sum m (weighted_field_terms m inside T)

-- The loss less the source, so that a flux is better where it is smaller.
unfoldable pub weighted_flux : Mesh → Case → Flux → ℤ
weighted_flux m inside q = whole_sum m (weighted_flux_terms m q) -ℤ pos (60 * 2 ^ 44) *ℤ whole_sum m (entering_terms inside q)
