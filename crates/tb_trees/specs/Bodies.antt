-- A body on a grid, and what is kept of its outlet tree.
use Rattle.std.specs.Prelude.{◌≡◌, List, Bool, length}
use Rattle.tb_places.specs.Places.{Counts, cell_count}
use Rattle.tb_detail.specs.declared.Detail.{Detail}
use Rattle.tb_grid.specs.Grid.{Axes, counts_of}
use Rattle.tb_grid.specs.declared.ids.CellId.{CellId}
use Rattle.tb_model.specs.Mesh.{Mesh}
use Rattle.tb_geometry.specs.Grids.{CarriesBody, mesh_on}
use Rattle.tb_walk.specs.Isolated.{MarkSolids}
use Rattle.tb_outlets.specs.declared.marks.Mark.{Mark}
use Rattle.tb_outlets.specs.declared.side.Side.{Side}
use Rattle.tb_outlets.specs.Repair.{MarkCarrying}
use Rattle.tb_outlets.specs.Trees.{IsTreeOf}

-- a body, as its detail, on a grid, as its axes
pub record BodyOnGrid : Type 0 where
  pub body : Detail
  pub grid : Axes

abbrev pub mesh_of : BodyOnGrid → Mesh
mesh_of b = mesh_on b.body b.grid

-- the tree of the mesh, of each face whether heat may pass it, and of each cell whether it is solid
pub record KeepsTree (b : BodyOnGrid) (n : Counts) (marks : List Mark) (sides : List Side) (order : List CellId) (passable solid : List Bool) : Type 0 where
  pub carried : CarriesBody b.grid b.body
  pub counts : n ≡ counts_of b.grid
  pub tree : IsTreeOf (mesh_of b) marks sides order
  pub passes : MarkCarrying (mesh_of b) passable
  pub solids : MarkSolids (mesh_of b).cells (mesh_of b) solid
  pub each : length solid ≡ cell_count n
