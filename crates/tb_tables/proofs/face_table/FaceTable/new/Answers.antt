use Rattle.std.proofs.Common.{sym, subst, List}
use Rattle.tb_places.specs.Inverse.{face_place}
use Rattle.tb_places.specs.Places.{face_count}
use Rattle.tb_grid.specs.Grid.{counts_of}
use Rattle.tb_model.specs.Values.{case_of}
use Rattle.tb_geometry.specs.Grids.{mesh_on}
use Rattle.tb_relax.specs.declared.table.FaceWeight.{FaceWeight}
use Rattle.tb_tables.specs.MeshRows.{IsFaceRow}
use Rattle.tb_tables.specs.Sharing.{AreRows}
use Rattle.tb_tables.proofs.face_table.FaceTable.new.Goals as goal

pub returns : goal.returns
returns c = subst (λ (rows : List FaceWeight). AreRows FaceWeight (λ n. IsFaceRow (mesh_on c.args.body.now c.args.grid.now) (case_of c.args.case.mask) (face_place (counts_of c.args.grid.now) n)) (face_count (counts_of c.args.grid.now)) rows c.fill.new.self.numbers.items)
    (sym c.shrink_to_fit.ensures.items) c.in_ok-fill.ensures.all
