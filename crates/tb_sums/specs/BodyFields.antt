-- A field on a grid that carries a body, and the temperatures along its rows.
use Rattle.std.specs.Prelude.{ℕ, ◌+◌, ◌≤◌, ◌≡◌, List, length, slice_index_or, ℤ, pos}
use Rattle.tb_places.specs.declared.AxisName.TheVariants.{X}
use Rattle.tb_places.specs.Places.{node_number, place_at}
use Rattle.tb_grid.specs.Axis.{interval_width}
use Rattle.tb_grid.specs.Grid.{counts_of}
use Rattle.tb_model.specs.Energy.{Terms, field_terms}
use Rattle.tb_model.specs.Values.{case_of}
use Rattle.tb_field.specs.Fields.{AreTemperatures, FitsNodes, field_on}
use Rattle.tb_rows.specs.Rows.{AreRows, mesh_under}
use Rattle.tb_sums.specs.declared.energy.BodyField.{BodyField}
use Rattle.tb_sums.specs.declared.row.NodeRows.{NodeRows}
use Rattle.tb_sums.specs.declared.row.Row.{Row}

-- the grid carries the body, and the temperatures are within limits, one for each node; there is an inverse for each width along x
pub record IsBodyField (f : BodyField) : Type 0 where
  pub rows : AreRows f.rows
  pub count : FitsNodes (counts_of f.rows.grid.now) f.temperatures.now
  pub warm : AreTemperatures f.temperatures.now
  pub room : counts_of f.rows.grid.now X ≤ length f.inverses.now

-- the terms of the energy on the mesh
abbrev pub terms_under : BodyField → Terms
terms_under f = field_terms (mesh_under f.rows) (case_of f.case.mask) (field_on f.rows.grid.now f.temperatures.now)

-- the temperature at a node
abbrev pub node_at : BodyField → ℕ → ℕ → ℕ → ℤ
node_at f i j k = slice_index_or f.temperatures.now (node_number (counts_of f.rows.grid.now) (place_at i j k)) (pos 0)

-- a list has the temperatures along a line of nodes
pub record IsNodeRow (f : BodyField) (j k : ℕ) (row : List ℤ) : Type 0 where
  pub count : length row ≡ counts_of f.rows.grid.now X + 1
  pub values : (i : ℕ) → i ≤ counts_of f.rows.grid.now X → slice_index_or row i (pos 0) ≡ node_at f i j k
  pub warm : AreTemperatures row

pub record AreNodeRows (f : BodyField) (j k : ℕ) (rows : NodeRows) : Type 0 where
  pub t00 : IsNodeRow f j k rows.t00.now
  pub t10 : IsNodeRow f (j + 1) k rows.t10.now
  pub t01 : IsNodeRow f j (k + 1) rows.t01.now
  pub t11 : IsNodeRow f (j + 1) (k + 1) rows.t11.now

-- a row of the grid
pub record IsRowOf (f : BodyField) (j k : ℕ) (row : Row) : Type 0 where
  pub lines : row.lines.now ≡ f.rows.grid.now.x
  pub y : row.y.width ≡ interval_width f.rows.grid.now.y j
  pub z : row.z.width ≡ interval_width f.rows.grid.now.z k
  pub nodes : AreNodeRows f j k row.nodes
  pub mask : row.mask ≡ f.case.mask
