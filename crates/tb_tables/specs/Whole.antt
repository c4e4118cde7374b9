-- The weights of a mesh, with the memory that they take.
use Rattle.std.specs.Prelude.{◌≡◌}
use Rattle.tb_places.specs.Inverse.{cell_place, face_place}
use Rattle.tb_places.specs.Places.{cell_count, face_count}
use Rattle.tb_grid.specs.Views.{along_axes}
use Rattle.tb_model.specs.Energy.{Case}
use Rattle.tb_model.specs.Mesh.{Mesh}
use Rattle.tb_relax.specs.declared.table.CellWeights.{CellWeights}
use Rattle.tb_relax.specs.declared.table.FaceWeight.{FaceWeight}
use Rattle.tb_tables.specs.declared.whole.Tables.{Tables}
use Rattle.tb_tables.specs.MeshRows.{IsCellRow, IsFaceRow}
use Rattle.tb_tables.specs.Sharing.{AreRows}

-- each cell and each face of a mesh has its row
pub record AreTablesOf (m : Mesh) (inside : Case) (t : Tables) : Type 0 where
  pub counts : along_axes t.counts ≡ m.cells
  pub cells : AreRows CellWeights (λ c. IsCellRow m (cell_place m.cells c)) (cell_count m.cells) t.cells.rows.items t.cells.numbers.items
  pub faces : AreRows FaceWeight (λ f. IsFaceRow m inside (face_place m.cells f)) (face_count m.cells) t.faces.rows.items t.faces.numbers.items
