-- The rows that a mesh's cells and faces have.
use Rattle.std.specs.Prelude.{◌≡◌, ◌^◌, pos, if◌then◌else◌}
use Rattle.tb_places.specs.declared.AxisName.{AxisName}
use Rattle.tb_places.specs.declared.FacePlace.{FacePlace}
use Rattle.tb_places.specs.declared.Place.{Place}
use Rattle.tb_places.specs.Along.{index_along}
use Rattle.tb_places.specs.Places.{second, third}
use Rattle.tb_model.specs.Energy.{Case}
use Rattle.tb_model.specs.Mesh.{Mesh, kind_at}
use Rattle.tb_weighted.specs.FlowMoves.{counts_as}
use Rattle.tb_weighted.specs.OnMesh.{mesh_cell, mesh_face, mesh_flux_cell, mesh_flux_face, mesh_level, mesh_source}
use Rattle.tb_relax.specs.declared.table.CellWeights.{CellWeights}
use Rattle.tb_relax.specs.declared.table.FaceWeight.{FaceWeight}
use Rattle.tb_relax.specs.Tables.{flux_weight_along, source_of, weight_along}

-- the weights of the cell at a place along each axis
pub record IsCellRow (m : Mesh) (p : Place) (w : CellWeights) : Type 0 where
  pub field : (a : AxisName) → pos (weight_along w a) ≡ mesh_cell m a (index_along a p) (index_along (second a) p) (index_along (third a) p)
  pub flux : (a : AxisName) → pos (flux_weight_along w a) ≡ mesh_flux_cell m a (index_along a p) (index_along (second a) p) (index_along (third a) p)

-- the weights of a face, its level and its source in a case, and whether it counts
pub record IsFaceRow (m : Mesh) (inside : Case) (f : FacePlace) (w : FaceWeight) : Type 0 where
  pub field : pos w.field ≡ mesh_face m f.axis (index_along f.axis f.place) (index_along (second f.axis) f.place) (index_along (third f.axis) f.place)
  pub flux : pos w.flux ≡ mesh_flux_face m f.axis (index_along f.axis f.place) (index_along (second f.axis) f.place) (index_along (third f.axis) f.place)
  pub level : (if w.inside then pos (10 ^ 8) else pos 0) ≡ mesh_level m inside f.axis (index_along f.axis f.place) (index_along (second f.axis) f.place) (index_along (third f.axis) f.place)
  pub source : source_of w ≡ mesh_source m inside f.axis (index_along f.axis f.place) (index_along (second f.axis) f.place) (index_along (third f.axis) f.place)
  pub counts : w.counts ≡ counts_as (kind_at m f.axis f.place)
