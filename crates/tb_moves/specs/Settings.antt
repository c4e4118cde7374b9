-- Where moves are made: a body on a grid that carries it, in a case.
use Rattle.std.specs.Prelude.{◌≡◌}
use Rattle.tb_detail.specs.declared.Detail.{Detail}
use Rattle.tb_detail.specs.Limits.{InLimits}
use Rattle.tb_grid.specs.Grid.{Axes, IsGrid}
use Rattle.tb_model.specs.Energy as model
use Rattle.tb_model.specs.Mesh.{Mesh}
use Rattle.tb_model.specs.Values.{case_of}
use Rattle.tb_geometry.specs.declared.case.Case.{Case}
use Rattle.tb_geometry.specs.Faults.{IsAccepted}
use Rattle.tb_geometry.specs.Grids.{CarriesBody, mesh_on}
use Rattle.tb_tables.specs.declared.whole.Tables.{Tables}
use Rattle.tb_tables.specs.Whole.{AreTablesOf}
use Rattle.tb_trees.specs.Bodies.{BodyOnGrid}

pub record Setting : Type 0 where
  pub body : Detail
  pub grid : Axes
  pub case : Case

abbrev pub mesh_in : Setting → Mesh
mesh_in s = mesh_on s.body s.grid

abbrev pub case_in : Setting → model.Case
case_in s = case_of s.case.mask

-- the body has no fault and the grid carries it; the tables and the tree are those of the mesh
pub record KeepsSetting (s : Setting) (t : Tables) (tree : BodyOnGrid) : Type 0 where
  pub limits : InLimits s.body
  pub accepted : IsAccepted s.body
  pub grid : IsGrid s.grid
  pub carries : CarriesBody s.grid s.body
  pub tables : AreTablesOf (mesh_in s) (case_in s) t
  pub outlets : tree ≡ record { body = s.body; grid = s.grid }
