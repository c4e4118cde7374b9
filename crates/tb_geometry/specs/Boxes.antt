-- Tests of the program.
use Rattle.std.specs.Prelude.{Bool, ◌&&◌, nat_lt, true, false}
use Rattle.tb_places.specs.declared.AxisName.{AxisName}
use Rattle.tb_places.specs.declared.AxisName.TheVariants.{X, Y, Z}
use Rattle.tb_detail.specs.declared.Content.{Content}
use Rattle.tb_detail.specs.declared.Content.TheVariants.{Solid, Air}
use Rattle.tb_detail.specs.declared.SpaceBox.{SpaceBox}
use Rattle.tb_model.specs.Refinement.{low, high}

abbrev pub is_solid : Content → Bool
is_solid (Solid material) = true
is_solid (Air environment rs) = false

-- each of two boxes begins before the other ends: on an axis, and on all
abbrev pub meet_along : AxisName → SpaceBox → SpaceBox → Bool
meet_along a b c = nat_lt (low a b) (high a c) && nat_lt (low a c) (high a b)

abbrev pub meet : SpaceBox → SpaceBox → Bool
meet b c = meet_along X b c && meet_along Y b c && meet_along Z b c
