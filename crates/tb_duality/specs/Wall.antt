-- A plane wall: 1 m² of 166 mm of a material of 0.2 W/(m·K) between air of 0.13 and of 0.04 m²K/W. Its resistance,
-- 0.13 + 0.166/0.2 + 0.04 m²K/W, is 1, so that it conducts 1 W/K.
use Rattle.std.specs.Prelude.{ℕ, zero, suc, ◌^◌, ◌*◌, nat_eq, Option, Some, pos}
use Rattle.tb_math.specs.Rational.{ℚ, int}
use Rattle.tb_places.specs.declared.AxisName.{AxisName}
use Rattle.tb_places.specs.declared.AxisName.TheVariants.{X, Y, Z}
use Rattle.tb_detail.specs.declared.Content.{Content}
use Rattle.tb_detail.specs.declared.Content.TheVariants.{Solid, Air}
use Rattle.tb_model.specs.Mesh.{Mesh}
use Rattle.tb_model.specs.Energy.{Case, Field, Flux}

-- along x the inner air, the wall and the outer air
abbrev pub wall_cells : AxisName → ℕ
wall_cells X = 3
wall_cells Y = 1
wall_cells Z = 1

abbrev pub wall_width : AxisName → ℕ → ℚ
wall_width X i = int (pos 1660)
wall_width Y j = int (pos 10000)
wall_width Z k = int (pos 10000)

abbrev pub wall_occupant : ℕ → ℕ → ℕ → Option Content
wall_occupant zero j k = Some (Air 0 1300)
wall_occupant (suc zero) j k = Some (Solid 0)
wall_occupant (suc (suc i)) j k = Some (Air 1 400)

abbrev pub wall : Mesh
wall = record {
  cells = wall_cells;
  width = wall_width;
  occupant = wall_occupant;
  conductivity = λ _ _. int (pos 2000);
}

-- the inner air is at 1
abbrev pub warm_inside : Case
warm_inside e = nat_eq e 0

-- the temperature falls by 0.13 at the inner surface, by 0.83 through the wall and by 0.04 at the outer surface
abbrev pub wall_field : Field
wall_field zero j k = int (pos (10 ^ 8))
wall_field (suc zero) j k = int (pos (87 * 10 ^ 6))
wall_field (suc (suc zero)) j k = int (pos (4 * 10 ^ 6))
wall_field (suc (suc (suc i))) j k = int (pos 0)

-- 1 W flows straight through
abbrev pub wall_flux : Flux
wall_flux X i j k = int (pos (10 ^ 9))
wall_flux Y i j k = int (pos 0)
wall_flux Z i j k = int (pos 0)

-- 1 W enters at the inner surface and stays: this flux is not balanced
abbrev pub staying_flux : Flux
staying_flux X zero j k = int (pos 0)
staying_flux X (suc zero) j k = int (pos (10 ^ 9))
staying_flux X (suc (suc i)) j k = int (pos 0)
staying_flux Y i j k = int (pos 0)
staying_flux Z i j k = int (pos 0)
