-- Tables whose cells and faces have the rows of a mesh.
use Rattle.std.specs.Prelude.{ℕ, ◌<◌, slice_index, slice_index_or}
use Rattle.tb_places.specs.Inverse.{cell_place, face_place}
use Rattle.tb_places.specs.Places.{Counts, cell_count, face_count}
use Rattle.tb_model.specs.Energy.{Case}
use Rattle.tb_model.specs.Mesh.{Mesh}
use Rattle.tb_relax.specs.declared.table.CellWeights.{CellWeights}
use Rattle.tb_relax.specs.declared.table.FaceWeight.{FaceWeight}
use Rattle.tb_relax.specs.declared.table.Table.{Table}
use Rattle.tb_tables.specs.MeshRows.{IsCellRow, IsFaceRow}

-- the row with a cell's number, and that with a face's, are those of the mesh
pub record HasRowsOf (m : Mesh) (inside : Case) (n : Counts) (t : Table) : Type 0 where
  pub cells : (c : ℕ) (none : CellWeights) → c < cell_count n → IsCellRow m (cell_place n c) (slice_index_or t.cell_rows.now (slice_index t.cells.now c) none)
  pub faces : (f : ℕ) (none : FaceWeight) → f < face_count n → IsFaceRow m inside (face_place n f) (slice_index_or t.face_rows.now (slice_index t.faces.now f) none)
