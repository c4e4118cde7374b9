-- The rows of a grid that carries a body, and what lies in them and beside them.
use Rattle.std.specs.Prelude.{ℕ, suc, ◌+◌, ◌<◌, ◌≤◌, ◌≡◌, ◌≢◌, Some}
use Rattle.tb_places.specs.declared.AxisName.TheVariants.{X, Y, Z}
use Rattle.tb_places.specs.Places.{place_at}
use Rattle.tb_detail.specs.Limits.{InLimits}
use Rattle.tb_grid.specs.Grid.{IsGrid, counts_of}
use Rattle.tb_model.specs.Mesh.{Mesh}
use Rattle.tb_geometry.specs.Grids.{CarriesBody, mesh_on, occupant_at}
use Rattle.tb_geometry.specs.declared.occupant.Occupant.TheVariants.{Solid}
use Rattle.tb_rows.specs.declared.rows.Around.{Around}
use Rattle.tb_rows.specs.declared.rows.Rows.{Rows}
use Rattle.tb_rows.specs.declared.run.Beside.{Beside}
use Rattle.tb_rows.specs.declared.run.Run.{Run}
use Rattle.tb_rows.specs.Around.{IsBaseAbove, IsBaseBelow, LiesIn, filled_above, filled_below}

-- the grid carries the body
pub record AreRows (f : Rows) : Type 0 where
  pub limits : InLimits f.body.now
  pub carries : CarriesBody f.grid.now f.body.now
  pub grid : IsGrid f.grid.now

-- the mesh
abbrev pub mesh_under : Rows → Mesh
mesh_under f = mesh_on f.body.now f.grid.now

-- the base intervals at a row and beside it
pub record IsAround (f : Rows) (j k : ℕ) (a : Around) : Type 0 where
  pub row : a.j ≡ j
  pub layer : a.k ≡ k
  pub at_j : LiesIn f.body.now f.grid.now Y j a.base_j
  pub at_k : LiesIn f.body.now f.grid.now Z k a.base_k
  pub low_j : IsBaseBelow f.body.now f.grid.now Y j a.low_j
  pub high_j : IsBaseAbove f.body.now f.grid.now Y (j + 1) a.high_j
  pub low_k : IsBaseBelow f.body.now f.grid.now Z k a.low_k
  pub high_k : IsBaseAbove f.body.now f.grid.now Z (k + 1) a.high_k

-- what lies beside the cells of a row from one on up to another
pub record IsBeside (f : Rows) (j k from to : ℕ) (b : Beside) : Type 0 where
  pub low_x : b.low_x ≡ filled_below f.body.now f.grid.now X from j k
  pub high_x : b.high_x ≡ filled_above f.body.now f.grid.now X to j k
  pub low_y : (i : ℕ) → from ≤ i → i < to → b.low_y ≡ filled_below f.body.now f.grid.now Y j i k
  pub high_y : (i : ℕ) → from ≤ i → i < to → b.high_y ≡ filled_above f.body.now f.grid.now Y (suc j) i k
  pub low_z : (i : ℕ) → from ≤ i → i < to → b.low_z ≡ filled_below f.body.now f.grid.now Z k i j
  pub high_z : (i : ℕ) → from ≤ i → i < to → b.high_z ≡ filled_above f.body.now f.grid.now Z (suc k) i j

-- a run of a row, with what lies beside its cells
pub record IsRunOf (f : Rows) (j k : ℕ) (r : Run) : Type 0 where
  pub within : r.to ≤ counts_of f.grid.now X
  pub own : (i : ℕ) → r.from ≤ i → i < r.to → Some (Solid r.lambda) ≡ occupant_at f.body.now f.grid.now (place_at i j k)
  pub low_x : r.low_x ≡ filled_below f.body.now f.grid.now X r.from j k
  pub high_x : r.high_x ≡ filled_above f.body.now f.grid.now X r.to j k
  pub low_y : (i : ℕ) → r.from ≤ i → i < r.to → r.low_y ≡ filled_below f.body.now f.grid.now Y j i k
  pub high_y : (i : ℕ) → r.from ≤ i → i < r.to → r.high_y ≡ filled_above f.body.now f.grid.now Y (suc j) i k
  pub low_z : (i : ℕ) → r.from ≤ i → i < r.to → r.low_z ≡ filled_below f.body.now f.grid.now Z k i j
  pub high_z : (i : ℕ) → r.from ≤ i → i < r.to → r.high_z ≡ filled_above f.body.now f.grid.now Z (suc k) i j

-- the run of the cells from one on up to another
pub record IsWholeRun (f : Rows) (j k from to : ℕ) (r : Run) : Type 0 where
  pub run : IsRunOf f j k r
  pub from_is : r.from ≡ from
  pub to_is : r.to ≡ to

-- of the cells from one on up to another none is solid
pub record HasNoSolid (f : Rows) (j k from to : ℕ) : Type 0 where
  pub each : (i : ℕ) → from ≤ i → i < to → (lambda : ℕ) → Some (Solid lambda) ≢ occupant_at f.body.now f.grid.now (place_at i j k)
