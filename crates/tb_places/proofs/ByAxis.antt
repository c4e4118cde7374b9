-- What is said of x, y and z, of each axis.
use mathlib.Core.Path.{fun_ext}
use Rattle.std.proofs.Common.{◌≡◌}
use Rattle.tb_places.specs.declared.AxisName.{AxisName}
use Rattle.tb_places.specs.declared.AxisName.TheVariants.{X, Y, Z}
use Rattle.tb_places.specs.Places.{by_axis}

pub on_each_axis : (P : AxisName → Type 0) → P X → P Y → P Z → (a : AxisName) → P a
on_each_axis P x y z X = x
on_each_axis P x y z Y = y
on_each_axis P x y z Z = z

pub same_by_axis : {A : Type 0} (f : AxisName → A) (x y z : A) → x ≡ f X → y ≡ f Y → z ≡ f Z → by_axis x y z ≡ f
same_by_axis f x y z on_x on_y on_z = fun_ext (on_each_axis (λ a. by_axis x y z a ≡ f a) on_x on_y on_z)
