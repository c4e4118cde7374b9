-- What contracts see in the tables of weights, and in the values of a field.
use Rattle.std.specs.Prelude.{◌≡◌, ℕ, ◌^◌, ◌*◌, ◌-◌, negsuc, ◌<◌, List, length, map, slice_index, slice_index_or, Bool, false, if◌then◌else◌, ℤ, pos}
use Rattle.std.specs.List.{All}
use Rattle.tb_places.specs.declared.AxisName.{AxisName}
use Rattle.tb_places.specs.declared.AxisName.TheVariants.{X, Y, Z}
use Rattle.tb_places.specs.Along.{place_along}
use Rattle.tb_places.specs.declared.Place.{Place}
use Rattle.tb_places.specs.Places.{Counts, along, cell_count, cell_number, face_count, face_number, node_number}
use Rattle.tb_grid.specs.Views.{along_axes}
use Rattle.tb_relax.specs.declared.table.CellWeights.{CellWeights}
use Rattle.tb_relax.specs.declared.table.FaceWeight.{FaceWeight}
use Rattle.tb_relax.specs.declared.table.Table.{Table}
use Rattle.tb_weighted.specs.Flows.{over_flows, flows_of, FlowForms, flow_cell, flow_cell_slope, flow_face_slope, flow_face_rate}
use Rattle.tb_weighted.specs.Sequences.{AreMade}
use Rattle.tb_weighted.specs.Forms.{IsFormMove, values_of, Forms, Spread3, only_at, cell_part, cell_slope, face_rate, face_slope}

abbrev pub weight_along : CellWeights → AxisName → ℕ
weight_along w X = w.x
weight_along w Y = w.y
weight_along w Z = w.z

abbrev pub flux_weight_along : CellWeights → AxisName → ℕ
flux_weight_along w X = w.flux_x
flux_weight_along w Y = w.flux_y
flux_weight_along w Z = w.flux_z

-- what a surface face takes from the loss for each unit of flow, where its environment is at 1: a positive flow enters
-- where the air lies below
abbrev pub source_of : FaceWeight → ℤ
source_of w = if w.inside then (if w.low_is_air then negsuc (60 * 2 ^ 44 - 1) else pos (60 * 2 ^ 44)) else pos 0

abbrev pub table_counts : Table → Counts
table_counts t = along_axes t.counts

-- each cell and each face has a row
pub record IsTable (t : Table) : Type 0 where
  pub cells : length t.cells.now ≡ cell_count (table_counts t)
  pub faces : length t.faces.now ≡ face_count (table_counts t)
  pub cell_rows : All (λ r. r < length t.cell_rows.now) t.cells.now
  pub face_rows : All (λ r. r < length t.face_rows.now) t.faces.now

-- the weights at the row of a cell and of a face
abbrev pub cell_weight_at : Table → AxisName → ℕ → ℕ → ℕ → ℕ
cell_weight_at t a i j k = slice_index (map (λ w. weight_along w a) t.cell_rows.now) (slice_index t.cells.now (cell_number (table_counts t) (place_along a i j k)))

abbrev pub face_weight_at : Table → AxisName → ℕ → ℕ → ℕ → ℕ
face_weight_at t a i j k = slice_index (map (λ w. w.field) t.face_rows.now) (slice_index t.faces.now (face_number (table_counts t) a (place_along a i j k)))

abbrev pub face_inside_at : Table → AxisName → ℕ → ℕ → ℕ → Bool
face_inside_at t a i j k = slice_index_or (map (λ w. w.inside) t.face_rows.now) (slice_index t.faces.now (face_number (table_counts t) a (place_along a i j k))) false

-- the form of the field's energy
unfoldable pub field_forms : Table → Forms
field_forms t = record {
  cells = table_counts t;
  cell = λ a i j k. pos (cell_weight_at t a i j k);
  face = λ a i j k. pos (face_weight_at t a i j k);
  level = λ a i j k. if face_inside_at t a i j k then pos (10 ^ 8) else pos 0;
}

-- the moves of nodes at these places, one after another
abbrev pub AreNodeMoves : Table → List Place → List ℤ → List ℤ → Bool → Type 0
AreNodeMoves t nodes old new told = AreMade (List ℤ) Place (λ p. IsFormMove (field_forms t) (node_number (table_counts t) p)) nodes old new told

-- seen along an axis
abbrev pub value_on : Counts → List ℤ → AxisName → Spread3
value_on n values a i j k = along a (values_of n values) i j k

-- ---- the parts that a node's change has in cells and faces along an axis, the index along it first
abbrev pub rate_of_cells : Table → AxisName → ℕ → ℕ → ℕ → Spread3
rate_of_cells t a p q r = cell_part ((field_forms t).cell a) (only_at p q r)

abbrev pub rate_of_faces : Table → AxisName → ℕ → ℕ → ℕ → Spread3
rate_of_faces t a p q r = face_rate ((field_forms t).face a) (only_at p q r)

abbrev pub slope_of_cells : Table → List ℤ → AxisName → ℕ → ℕ → ℕ → Spread3
slope_of_cells t values a p q r = cell_slope ((field_forms t).cell a) (value_on (table_counts t) values a) (only_at p q r)

abbrev pub slope_of_faces : Table → List ℤ → AxisName → ℕ → ℕ → ℕ → Spread3
slope_of_faces t values a p q r = face_slope ((field_forms t).face a) ((field_forms t).level a) (value_on (table_counts t) values a) (only_at p q r)

-- ---- fluxes
abbrev pub cell_flux_at : Table → AxisName → ℕ → ℕ → ℕ → ℕ
cell_flux_at t a i j k = slice_index (map (λ w. flux_weight_along w a) t.cell_rows.now) (slice_index t.cells.now (cell_number (table_counts t) (place_along a i j k)))

abbrev pub face_flux_at : Table → AxisName → ℕ → ℕ → ℕ → ℕ
face_flux_at t a i j k = slice_index (map (λ w. w.flux) t.face_rows.now) (slice_index t.faces.now (face_number (table_counts t) a (place_along a i j k)))

abbrev pub face_source_at : Table → AxisName → ℕ → ℕ → ℕ → ℤ
face_source_at t a i j k = slice_index_or (map source_of t.face_rows.now) (slice_index t.faces.now (face_number (table_counts t) a (place_along a i j k))) (pos 0)

abbrev pub face_counts_at : Table → AxisName → ℕ → ℕ → ℕ → Bool
face_counts_at t a i j k = slice_index_or (map (λ w. w.counts) t.face_rows.now) (slice_index t.faces.now (face_number (table_counts t) a (place_along a i j k))) false

unfoldable pub flux_forms : Table → FlowForms
flux_forms t = record {
  cells = table_counts t;
  cell = λ a i j k. pos (cell_flux_at t a i j k);
  face = λ a i j k. pos (face_flux_at t a i j k);
  source = λ a i j k. face_source_at t a i j k;
}

abbrev pub flow_on : Counts → List ℤ → AxisName → Spread3
flow_on n flows a i j k = along a (flows_of n flows a) i j k

abbrev pub flow_rate_of_cells : Table → AxisName → ℕ → ℕ → ℕ → Spread3
flow_rate_of_cells t a p q r = flow_cell ((flux_forms t).cell a) (only_at p q r)

abbrev pub flow_rate_of_faces : Table → AxisName → ℕ → ℕ → ℕ → Spread3
flow_rate_of_faces t a p q r = flow_face_rate ((flux_forms t).face a) (only_at p q r)

abbrev pub flow_slope_of_cells : Table → List ℤ → AxisName → ℕ → ℕ → ℕ → Spread3
flow_slope_of_cells t flows a p q r = flow_cell_slope ((flux_forms t).cell a) (flow_on (table_counts t) flows a) (only_at p q r)

abbrev pub flow_slope_of_faces : Table → List ℤ → AxisName → ℕ → ℕ → ℕ → Spread3
flow_slope_of_faces t flows a p q r = flow_face_slope ((flux_forms t).face a) ((flux_forms t).source a) (flow_on (table_counts t) flows a) (only_at p q r)

-- the parabola of the flow through a face: its rate and its slope
abbrev pub rate_through : Table → AxisName → ℕ → ℕ → ℕ → ℤ
rate_through t a p q r = over_flows (flux_forms t) a (flow_rate_of_cells t a p q r) (flow_rate_of_faces t a p q r)

abbrev pub slope_through : Table → List ℤ → AxisName → ℕ → ℕ → ℕ → ℤ
slope_through t flows a p q r = over_flows (flux_forms t) a (flow_slope_of_cells t flows a p q r) (flow_slope_of_faces t flows a p q r)
