-- A quadratic form of flows through faces: weights of cells and of surface faces, and the pull of the source.
use Rattle.std.specs.Prelude.{ℕ, suc, ℤ, pos, ◌+ℤ◌, ◌*ℤ◌, List, slice_index_or}
use Rattle.tb_places.specs.declared.AxisName.{AxisName}
use Rattle.tb_places.specs.Places.{Counts, second, third, along, face_number, place_at}
use Rattle.tb_weighted.specs.Forms.{Spread3, axis_sum, over_axes}

-- one axis: v and s the weights of cells and faces, e what a face adds for each unit of flow, g the flows, u their change
abbrev pub flow_cell : Spread3 → Spread3 → Spread3
flow_cell v g i j k = v i j k *ℤ (g i j k *ℤ g i j k +ℤ g i j k *ℤ g (suc i) j k +ℤ g (suc i) j k *ℤ g (suc i) j k)

abbrev pub flow_face : Spread3 → Spread3 → Spread3 → Spread3
flow_face s e g i j k = s i j k *ℤ (g i j k *ℤ g i j k) +ℤ e i j k *ℤ g i j k

abbrev pub flow_cell_slope : Spread3 → Spread3 → Spread3 → Spread3
flow_cell_slope v g u i j k = v i j k *ℤ (u i j k *ℤ (pos 2 *ℤ g i j k +ℤ g (suc i) j k) +ℤ u (suc i) j k *ℤ (g i j k +ℤ pos 2 *ℤ g (suc i) j k))

abbrev pub flow_face_slope : Spread3 → Spread3 → Spread3 → Spread3 → Spread3
flow_face_slope s e g u i j k = s i j k *ℤ (pos 2 *ℤ (u i j k *ℤ g i j k)) +ℤ e i j k *ℤ u i j k

abbrev pub flow_face_rate : Spread3 → Spread3 → Spread3
flow_face_rate s u i j k = s i j k *ℤ (u i j k *ℤ u i j k)

-- three axes
pub record FlowForms : Type 0 where
  pub cells : Counts
  pub cell : AxisName → ℕ → ℕ → ℕ → ℤ
  pub face : AxisName → ℕ → ℕ → ℕ → ℤ
  pub source : AxisName → ℕ → ℕ → ℕ → ℤ

abbrev pub Flows3 : Type 0
Flows3 = AxisName → ℕ → ℕ → ℕ → ℤ

abbrev pub over_flows : FlowForms → AxisName → Spread3 → Spread3 → ℤ
over_flows f a cell face = axis_sum (f.cells a) (f.cells (second a)) (f.cells (third a)) cell face

unfoldable pub flow_energy : FlowForms → Flows3 → ℤ
flow_energy f q = over_axes (λ a. over_flows f a (flow_cell (f.cell a) (along a (q a))) (flow_face (f.face a) (f.source a) (along a (q a))))

unfoldable pub flow_rate : FlowForms → Flows3 → ℤ
flow_rate f u = over_axes (λ a. over_flows f a (flow_cell (f.cell a) (along a (u a))) (flow_face_rate (f.face a) (along a (u a))))

unfoldable pub flow_slope : FlowForms → Flows3 → Flows3 → ℤ
flow_slope f q u = over_axes (λ a. over_flows f a (flow_cell_slope (f.cell a) (along a (q a)) (along a (u a))) (flow_face_slope (f.face a) (f.source a) (along a (q a)) (along a (u a))))

-- the flows of a list through the faces
abbrev pub flows_of : Counts → List ℤ → Flows3
flows_of n flows a i j k = slice_index_or flows (face_number n a (place_at i j k)) (pos 0)
