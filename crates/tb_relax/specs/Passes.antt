-- Tables of a mesh.
use Rattle.std.specs.Prelude.{◌≡◌, ℕ}
use Rattle.tb_places.specs.declared.AxisName.{AxisName}
use Rattle.tb_places.specs.Places.{IsFace, place_at}
use Rattle.tb_model.specs.Energy.{Case}
use Rattle.tb_model.specs.Mesh.{Mesh, kind_at}
use Rattle.tb_weighted.specs.FlowMoves.{counts_as}
use Rattle.tb_weighted.specs.OnMesh.{IsFlowFormOf, IsFormOf}
use Rattle.tb_relax.specs.declared.table.Table.{Table}
use Rattle.tb_relax.specs.Rounds.{counts_at}
use Rattle.tb_relax.specs.Tables.{field_forms, flux_forms}

-- a table has the weights of a mesh in a case, and the faces count that aren't idle
pub record IsTableOf (m : Mesh) (inside : Case) (t : Table) : Type 0 where
  pub field : IsFormOf m inside (field_forms t)
  pub flux : IsFlowFormOf m inside (flux_forms t)
  pub counts : (a : AxisName) (i j k : ℕ) → IsFace m.cells a (place_at i j k) → counts_at t a i j k ≡ counts_as (kind_at m a (place_at i j k))
