-- A corner: one solid cell with air beside it along x and along y, and what goes wrong where it is cut at a ratio that
-- isn't that of the widths.
use Rattle.std.specs.Prelude.{ℕ, zero, suc, nat_eq, Option, Some, pos, negsuc}
use Rattle.tb_math.specs.Rational.{ℚ, int, ratio}
use Rattle.tb_places.specs.declared.AxisName.{AxisName}
use Rattle.tb_places.specs.declared.AxisName.TheVariants.{X, Y, Z}
use Rattle.tb_places.specs.Cuts.{on_axis, on_lines}
use Rattle.tb_detail.specs.declared.Content.{Content}
use Rattle.tb_detail.specs.declared.Content.TheVariants.{Solid, Air}
use Rattle.tb_model.specs.Cuts.{shared, bridged}
use Rattle.tb_model.specs.Energy.{Case, Field, Flux}
use Rattle.tb_model.specs.Mesh.{Mesh}

abbrev pub corner_cells : AxisName → ℕ
corner_cells X = 2
corner_cells Y = 2
corner_cells Z = 1

abbrev pub corner_occupant : ℕ → ℕ → ℕ → Option Content
corner_occupant zero zero k = Some (Solid 0)
corner_occupant (suc i) zero k = Some (Air 0 1)
corner_occupant i (suc j) k = Some (Air 1 1)

abbrev pub corner : Mesh
corner = record {
  cells = corner_cells;
  width = λ _ _. int (pos 1);
  occupant = corner_occupant;
  conductivity = λ _ _. int (pos 1);
}

-- the air beside the corner along x is at 1
abbrev pub warm_beside : Case
warm_beside e = nat_eq e 0

-- the temperature rises along x
abbrev pub corner_field : Field
corner_field zero j k = int (pos 0)
corner_field (suc i) j k = int (pos 8)

-- heat enters along x and leaves along y
abbrev pub corner_flux : Flux
corner_flux X (suc zero) zero k = int (negsuc 0)
corner_flux X i j k = int (pos 0)
corner_flux Y zero (suc zero) k = int (pos 1)
corner_flux Y i j k = int (pos 0)
corner_flux Z i j k = int (pos 0)

abbrev pub half : ℚ
half = ratio (pos 1) 2

abbrev pub quarter : ℚ
quarter = ratio (pos 1) 4

-- a flux that takes the linear value on the new faces, while each face along the cut is divided into equal halves
abbrev pub halved_flux : AxisName → ℕ → ℚ → Flux → Flux
halved_flux a p s q b = on_axis a b (on_lines a (bridged p s) (q b)) (on_lines a (shared p half) (q b))
