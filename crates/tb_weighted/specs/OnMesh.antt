-- The forms of a mesh: the weights that a field's weighted energy has on it.
use Rattle.std.specs.Prelude.{◌≡◌, ℕ, ◌*◌, ◌-◌, ◌<◌, ◌≤◌, ◌^◌, ℤ, pos, negsuc, if◌then◌else◌}
use Rattle.tb_places.specs.declared.AxisName.{AxisName}
use Rattle.tb_places.specs.Places.{along, second, third}
use Rattle.tb_model.specs.Mesh.{Mesh, kind, cross_section}
use Rattle.tb_model.specs.Energy.{Case, of_solid, at_surface}
use Rattle.tb_weighted.specs.Weighted.{field_weight, surface_field_weight, flux_weight, surface_flux_weight}
use Rattle.tb_weighted.specs.Forms.{Forms}
use Rattle.tb_weighted.specs.Flows.{FlowForms}

abbrev pub mesh_cell : Mesh → AxisName → ℕ → ℕ → ℕ → ℤ
mesh_cell m a i j k = of_solid (pos 0) (λ n. field_weight (m.conductivity n a) (m.width a i) (cross_section m a j k)) (along a m.occupant i j k)

abbrev pub mesh_face : Mesh → AxisName → ℕ → ℕ → ℕ → ℤ
mesh_face m a i j k = at_surface (pos 0) (λ e rs low. surface_field_weight rs (cross_section m a j k)) (kind m a i j k)

abbrev pub mesh_level : Mesh → Case → AxisName → ℕ → ℕ → ℕ → ℤ
mesh_level m inside a i j k = at_surface (pos 0) (λ e rs low. if inside e then pos (10 ^ 8) else pos 0) (kind m a i j k)

abbrev pub mesh_forms : Mesh → Case → Forms
mesh_forms m inside = record { cells = m.cells; cell = mesh_cell m; face = mesh_face m; level = mesh_level m inside }

-- a form is that of a mesh: the same cells, and the same weights and levels within the grid
pub record IsFormOf (m : Mesh) (inside : Case) (f : Forms) : Type 0 where
  pub cells : f.cells ≡ m.cells
  pub cell : (a : AxisName) (i j k : ℕ) → i < m.cells a → j < m.cells (second a) → k < m.cells (third a) → f.cell a i j k ≡ mesh_cell m a i j k
  pub face : (a : AxisName) (i j k : ℕ) → i ≤ m.cells a → j < m.cells (second a) → k < m.cells (third a) → f.face a i j k ≡ mesh_face m a i j k
  pub level : (a : AxisName) (i j k : ℕ) → i ≤ m.cells a → j < m.cells (second a) → k < m.cells (third a) → f.level a i j k ≡ mesh_level m inside a i j k

-- The form of a flux. What a surface face adds for each unit of flow: the source counts with 60 * 2 ^ 44, less where the
-- flow enters the body from an environment at 1.
abbrev pub mesh_flux_cell : Mesh → AxisName → ℕ → ℕ → ℕ → ℤ
mesh_flux_cell m a i j k = of_solid (pos 0) (λ n. flux_weight (m.conductivity n a) (m.width a i) (cross_section m a j k)) (along a m.occupant i j k)

abbrev pub mesh_flux_face : Mesh → AxisName → ℕ → ℕ → ℕ → ℤ
mesh_flux_face m a i j k = at_surface (pos 0) (λ e rs low. surface_flux_weight rs (cross_section m a j k)) (kind m a i j k)

abbrev pub mesh_source : Mesh → Case → AxisName → ℕ → ℕ → ℕ → ℤ
mesh_source m inside a i j k = at_surface (pos 0) (λ e rs low. if inside e then (if low then negsuc (60 * 2 ^ 44 - 1) else pos (60 * 2 ^ 44)) else pos 0) (kind m a i j k)

abbrev pub mesh_flow_forms : Mesh → Case → FlowForms
mesh_flow_forms m inside = record { cells = m.cells; cell = mesh_flux_cell m; face = mesh_flux_face m; source = mesh_source m inside }

pub record IsFlowFormOf (m : Mesh) (inside : Case) (f : FlowForms) : Type 0 where
  pub cells : f.cells ≡ m.cells
  pub cell : (a : AxisName) (i j k : ℕ) → i < m.cells a → j < m.cells (second a) → k < m.cells (third a) → f.cell a i j k ≡ mesh_flux_cell m a i j k
  pub face : (a : AxisName) (i j k : ℕ) → i ≤ m.cells a → j < m.cells (second a) → k < m.cells (third a) → f.face a i j k ≡ mesh_flux_face m a i j k
  pub source : (a : AxisName) (i j k : ℕ) → i ≤ m.cells a → j < m.cells (second a) → k < m.cells (third a) → f.source a i j k ≡ mesh_source m inside a i j k
