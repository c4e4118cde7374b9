-- A flux on a grid that carries a body, and the flows along its rows.
use Rattle.std.specs.Prelude.{ℕ, ◌+◌, ◌<◌, ◌≤◌, ◌≡◌, List, length, slice_index_or, ℤ, pos}
use Rattle.tb_places.specs.declared.AxisName.{AxisName}
use Rattle.tb_places.specs.declared.AxisName.TheVariants.{X, Y, Z}
use Rattle.tb_places.specs.Places.{face_number, place_at}
use Rattle.tb_grid.specs.Axis.{interval_width}
use Rattle.tb_grid.specs.Grid.{counts_of}
use Rattle.tb_model.specs.Energy.{Terms, entering_terms, flux_terms}
use Rattle.tb_model.specs.Values.{case_of}
use Rattle.tb_flux.specs.Fluxes.{AreFlows, FitsFaces, flux_on}
use Rattle.tb_rows.specs.Rows.{AreRows, mesh_under}
use Rattle.tb_sums.specs.declared.flow_row.FlowRow.{FlowRow}
use Rattle.tb_sums.specs.declared.flow_row.FlowRows.{FlowRows}
use Rattle.tb_sums.specs.declared.flux.BodyFlux.{BodyFlux}

-- the grid carries the body, and the flows are within limits, one for each face; there is an inverse for each width along x
pub record IsBodyFlux (f : BodyFlux) : Type 0 where
  pub rows : AreRows f.rows
  pub count : FitsFaces (counts_of f.rows.grid.now) f.flows.now
  pub flows : AreFlows f.flows.now
  pub room : counts_of f.rows.grid.now X ≤ length f.inverses.now

-- the terms of the loss on the mesh, and those of what enters
abbrev pub loss_under : BodyFlux → Terms
loss_under f = flux_terms (mesh_under f.rows) (flux_on f.rows.grid.now f.flows.now)

abbrev pub entering_under : BodyFlux → Terms
entering_under f = entering_terms (case_of f.case.mask) (flux_on f.rows.grid.now f.flows.now)

-- the flow through the face across an axis at a place
abbrev pub flow_at : BodyFlux → AxisName → ℕ → ℕ → ℕ → ℤ
flow_at f a i j k = slice_index_or f.flows.now (face_number (counts_of f.rows.grid.now) a (place_at i j k)) (pos 0)

-- a list has the flows across an axis through the first n faces of a row
pub record IsFlowRow (f : BodyFlux) (a : AxisName) (j k n : ℕ) (row : List ℤ) : Type 0 where
  pub count : length row ≡ n
  pub values : (i : ℕ) → i < n → slice_index_or row i (pos 0) ≡ flow_at f a i j k
  pub flows : AreFlows row

pub record AreFlowRows (f : BodyFlux) (j k : ℕ) (rows : FlowRows) : Type 0 where
  pub x : IsFlowRow f X j k (counts_of f.rows.grid.now X + 1) rows.x.now
  pub low_y : IsFlowRow f Y j k (counts_of f.rows.grid.now X) rows.low_y.now
  pub high_y : IsFlowRow f Y (j + 1) k (counts_of f.rows.grid.now X) rows.high_y.now
  pub low_z : IsFlowRow f Z j k (counts_of f.rows.grid.now X) rows.low_z.now
  pub high_z : IsFlowRow f Z j (k + 1) (counts_of f.rows.grid.now X) rows.high_z.now

-- a row of the grid
pub record IsRowOfFlows (f : BodyFlux) (j k : ℕ) (row : FlowRow) : Type 0 where
  pub lines : row.lines.now ≡ f.rows.grid.now.x
  pub y : row.y.width ≡ interval_width f.rows.grid.now.y j
  pub z : row.z.width ≡ interval_width f.rows.grid.now.z k
  pub flows : AreFlowRows f j k row.flows
  pub mask : row.mask ≡ f.case.mask
