-- Mean values of fields and fluxes on a cell and on a face, in which the laws of one cell and one surface are said.
--
-- The index along the axis comes first, as everywhere.
use Rattle.std.specs.Prelude.{ℕ, suc, Bool, if◌then◌else◌}
use Rattle.tb_math.specs.Rational.{ℚ, one_over, ◌+ℚ◌, ◌-ℚ◌, ◌*ℚ◌, neg_ℚ}
use Rattle.tb_places.specs.declared.AxisName.{AxisName}
use Rattle.tb_places.specs.Places.{along}
use Rattle.tb_model.specs.Energy.{Field, Flux}

-- the mean of a function of places over the four corners of the face across an axis
abbrev pub mean_at : (ℕ → ℕ → ℚ) → ℕ → ℕ → ℚ
mean_at f j k = one_over 4 *ℚ (f j k +ℚ f (suc j) k +ℚ f j (suc k) +ℚ f (suc j) (suc k))

-- the mean temperature of a face
abbrev pub face_temperature : Field → AxisName → ℕ → ℕ → ℕ → ℚ
face_temperature T a i j k = mean_at (λ q r. along a T i q r) j k

-- the mean difference of temperature along an axis of a cell
abbrev pub mean_difference : Field → AxisName → ℕ → ℕ → ℕ → ℚ
mean_difference T a i j k = mean_at (λ q r. along a T (suc i) q r -ℚ along a T i q r) j k

-- the mean flow along an axis of a cell
abbrev pub mean_flow : Flux → AxisName → ℕ → ℕ → ℕ → ℚ
mean_flow q a i j k = one_over 2 *ℚ (along a (q a) i j k +ℚ along a (q a) (suc i) j k)

-- the flow through a face times its temperature
abbrev pub carried : Field → Flux → AxisName → ℕ → ℕ → ℕ → ℚ
carried T q a i j k = along a (q a) i j k *ℚ face_temperature T a i j k

-- what leaves a cell through its two faces across an axis, of the flow times the temperature
abbrev pub carried_off : Field → Flux → AxisName → ℕ → ℕ → ℕ → ℚ
carried_off T q a i j k = carried T q a (suc i) j k -ℚ carried T q a i j k

-- what enters the body through a surface face, of a flow in the direction of the axis
abbrev pub entering : ℚ → Bool → ℚ
entering flow low_is_air = if low_is_air then flow else neg_ℚ flow
