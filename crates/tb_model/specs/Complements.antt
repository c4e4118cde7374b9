-- Complements: the case of the other environments, and what it makes of a field and a flux.
--
-- The two cases have the same heat flow, the other way round.
use Rattle.std.specs.Prelude.{◌≡◌, ℕ, ◌<◌, ◌≤◌, ◌^◌, Bool, not, length, pos}
use Rattle.tb_math.specs.Rational.{int, ◌-ℚ◌, neg_ℚ}
use Rattle.tb_places.specs.declared.AxisName.{AxisName}
use Rattle.tb_places.specs.Places.{second, third}
use Rattle.tb_detail.specs.declared.Detail.{Detail}
use Rattle.tb_model.specs.declared.FaceKind.TheVariants.{Surface}
use Rattle.tb_model.specs.Mesh.{Mesh, kind}
use Rattle.tb_model.specs.Energy.{Case, Field, Flux}

-- Each environment of a detail is in one of two cases and not in the other.
abbrev pub AreComplements : Detail → Case → Case → Type 0
AreComplements d inside others = (e : ℕ) → e < length d.environments → others e ≡ not (inside e)

-- Each environment that a mesh has a surface to is in one of two cases and not in the other.
abbrev pub AreComplementsOn : Mesh → Case → Case → Type 0
AreComplementsOn m inside others = (a : AxisName) (i j k e rs : ℕ) (low_is_air : Bool) →
    i ≤ m.cells a → j < m.cells (second a) → k < m.cells (third a) → kind m a i j k ≡ Surface e rs low_is_air → others e ≡ not (inside e)

-- what is left to 1 of each temperature, and each flow the other way
abbrev pub turned_field : Field → Field
turned_field T i j k = int (pos (10 ^ 8)) -ℚ T i j k

abbrev pub turned_flux : Flux → Flux
turned_flux q a i j k = neg_ℚ (q a i j k)
