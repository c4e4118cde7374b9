-- The hull of boxes, and volumes as counts of unit cubes.
use Rattle.std.specs.Prelude.{ℕ, ◌-◌, ◌*◌, ◌↔◌, List}
use Rattle.tb_places.specs.declared.AxisName.{AxisName}
use Rattle.tb_places.specs.declared.AxisName.TheVariants.{X, Y, Z}
use Rattle.tb_places.specs.Ranges.{IsWithin}
use Rattle.tb_detail.specs.declared.SpaceBox.{SpaceBox}
use Rattle.tb_model.specs.Refinement.{low, high}
use Rattle.tb_geometry.specs.Cubes.{IsInHullOn}

-- on each axis the hull of boxes reaches from lo up to hi
abbrev pub IsHull : List SpaceBox → (AxisName → ℕ) → (AxisName → ℕ) → Type 0
IsHull boxes lo hi = (a : AxisName) (x : ℕ) → IsInHullOn a boxes x ↔ IsWithin (lo a) (hi a) x

-- how many unit cubes there are from lo up to hi
abbrev pub volume : (AxisName → ℕ) → (AxisName → ℕ) → ℕ
volume lo hi = (hi X - lo X) * (hi Y - lo Y) * (hi Z - lo Z)

abbrev pub box_volume : SpaceBox → ℕ
box_volume b = volume (λ a. low a b) (λ a. high a b)
