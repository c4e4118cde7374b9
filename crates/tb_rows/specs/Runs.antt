-- What lies beside the cells of a run.
use Rattle.std.specs.Prelude.{ℕ, ◌+◌, ◌==◌, Option, Some, if◌then◌else◌}
use Rattle.tb_geometry.specs.declared.occupant.Occupant.{Occupant}
use Rattle.tb_geometry.specs.declared.occupant.Occupant.TheVariants.{Solid}
use Rattle.tb_rows.specs.Filled.{IsAir}
use Rattle.tb_rows.specs.declared.run.Run.{Run}

-- along x: another cell of the run, or what lies at its end
abbrev pub low_at : Run → ℕ → Option Occupant
low_at r i = if i == r.from then r.low_x else Some (Solid r.lambda)

abbrev pub high_at : Run → ℕ → Option Occupant
high_at r i = if i + 1 == r.to then r.high_x else Some (Solid r.lambda)

-- no air lies beside the cells along y and z
abbrev pub IsClosed : Run → Type 0
IsClosed r = (¬ IsAir r.low_y) × (¬ IsAir r.high_y) × (¬ IsAir r.low_z) × (¬ IsAir r.high_z)
