use Rattle.tb_places.specs.Inverse.{face_place}
use Rattle.tb_grid.specs.Grid.{counts_of}
use Rattle.tb_model.specs.Values.{case_of}
use Rattle.tb_geometry.specs.Grids.{mesh_on}
use Rattle.tb_relax.specs.declared.table.FaceWeight.{FaceWeight}
use Rattle.tb_tables.specs.MeshRows.{IsFaceRow}
use Rattle.tb_tables.specs.Sharing.{AreRows, AreSorted}
use Rattle.tb_tables.specs.declared.sorts.FaceSort.{FaceSort}
use Rattle.tb_tables.specs.Sorts.{HasFaceSort}
use Rattle.tb_tables.proofs.face_table.FaceTable.fill.Given as goal

abbrev pub invariant-loop-face : goal.invariant-loop-face
invariant-loop-face l = record {
  rows : AreRows FaceWeight (λ f. IsFaceRow (mesh_on l.body l.grid) (case_of l.case.mask) (face_place (counts_of l.grid) f)) l.face l.self.rows.items l.self.numbers.items;
  sorted : AreSorted FaceWeight FaceSort HasFaceSort l.self.rows.items l.known.sorts.items;
}
