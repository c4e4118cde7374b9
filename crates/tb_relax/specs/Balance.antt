-- Meshes on which loops keep the balance.
use Rattle.std.specs.Prelude.{◌≢◌, ◌<◌, ℕ, None}
use Rattle.tb_places.specs.declared.AxisName.TheVariants.{X, Y, Z}
use Rattle.tb_model.specs.Mesh.{Mesh}

-- something fills each cell
abbrev pub IsFilled : Mesh → Type 0
IsFilled m = (i j k : ℕ) → i < m.cells X → j < m.cells Y → k < m.cells Z → m.occupant i j k ≢ None
