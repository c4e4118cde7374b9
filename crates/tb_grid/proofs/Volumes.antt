-- A cell's width times its cross-section is the same along each axis.
use Rattle.std.proofs.Common.{◌≡◌, ℕ, ◌*◌, arith, refl, sym, ◌∙◌}
use Rattle.tb_places.specs.declared.AxisName.{AxisName}
use Rattle.tb_places.specs.declared.AxisName.TheVariants.{X, Y, Z}
use Rattle.tb_places.specs.declared.Place.{Place}
use Rattle.tb_grid.specs.Direction.{area_of, width_of}
use Rattle.tb_grid.specs.Grid.{Axes}

turned : (x y z : ℕ) → (y * (x * z) ≡ x * (y * z)) × (z * (x * y) ≡ x * (y * z))
turned x y z = (omega arith, omega arith)

as_along_x : (g : Axes) (a : AxisName) (p : Place) → width_of g a p * area_of g a p ≡ width_of g X p * area_of g X p
as_along_x g X p = refl
as_along_x g Y p = (turned (width_of g X p) (width_of g Y p) (width_of g Z p)).0
as_along_x g Z p = (turned (width_of g X p) (width_of g Y p) (width_of g Z p)).1

pub same_volume : (g : Axes) (a b : AxisName) (p : Place) → width_of g a p * area_of g a p ≡ width_of g b p * area_of g b p
same_volume g a b p = as_along_x g a p ∙ sym (as_along_x g b p)
