-- Differences of whole numbers as rational numbers, and differences of node values along an axis.
use Rattle.std.proofs.Common.{◌≡◌, ℕ, suc, ◌+◌, ◌/◌, ◌%◌, List, ap, ◌∙◌, add-one, ℤ}
use Rattle.tb_math.specs.Rational.{ℚ, int, ◌-ℚ◌}
use Rattle.tb_math.proofs.RationalLaws.{int-difference}
use Rattle.tb_places.specs.declared.AxisName.{AxisName}
use Rattle.tb_places.specs.declared.AxisName.TheVariants.{X, Y, Z}
use Rattle.tb_places.specs.Along.{index_along}
use Rattle.tb_places.specs.Inverse.{cell_place}
use Rattle.tb_places.specs.Places.{along, second, third}
use Rattle.tb_grid.specs.Grid.{Axes, counts_of}
use Rattle.tb_field.specs.Fields.{difference_at, field_on}

-- how much a field rises along an axis, from the index i of that axis to j, at indexes of the other two
unfoldable rise : Axes → List ℤ → AxisName → ℕ → ℕ → ℕ → ℕ → ℚ
rise g values a i j q r = along a (field_on g values) j q r -ℚ along a (field_on g values) i q r

one_further : (g : Axes) (values : List ℤ) (a : AxisName) (c corner : ℕ) →
    let p = cell_place (counts_of g) c in
    int (difference_at (counts_of g) a values c corner)
    ≡ rise g values a (index_along a p) (index_along a p + 1) (index_along (second a) p + corner % 2) (index_along (third a) p + corner / 2)
unfolding rise
one_further g values X c corner = int-difference _ _
one_further g values Y c corner = int-difference _ _
one_further g values Z c corner = int-difference _ _

pub difference_rises : (g : Axes) (values : List ℤ) (a : AxisName) (c corner : ℕ) →
    let p = cell_place (counts_of g) c in
    let q = index_along (second a) p + corner % 2 in
    let r = index_along (third a) p + corner / 2 in
    int (difference_at (counts_of g) a values c corner)
    ≡ along a (field_on g values) (suc (index_along a p)) q r -ℚ along a (field_on g values) (index_along a p) q r
unfolding rise
difference_rises g values a c corner =
    let p = cell_place (counts_of g) c in
    let q = index_along (second a) p + corner % 2 in
    let r = index_along (third a) p + corner / 2 in
    one_further g values a c corner ∙ ap (λ (j : ℕ). rise g values a (index_along a p) j q r) (add-one (index_along a p))
