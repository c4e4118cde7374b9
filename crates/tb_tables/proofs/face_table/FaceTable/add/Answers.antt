use Rattle.std.proofs.Common.{◌≡◌, sym, subst, ap, ◌∙◌, ◌+◌, ℕ, List, [], ◌∷◌, ◌++◌}
use Rattle.tb_places.specs.Inverse.{face_place}
use Rattle.tb_grid.specs.Grid.{counts_of}
use Rattle.tb_model.specs.Values.{case_of}
use Rattle.tb_geometry.specs.Grids.{mesh_on}
use Rattle.tb_relax.specs.declared.table.FaceWeight.{FaceWeight}
use Rattle.tb_tables.specs.MeshRows.{IsFaceRow}
use Rattle.tb_tables.specs.Sharing.{AreRows}
use Rattle.tb_tables.specs.Sorts.{HasFaceSort}
use Rattle.tb_tables.proofs.Sharing.{one_more}
use Rattle.tb_tables.proofs.face_table.FaceTable.add.Goals as goal

pub returns : goal.returns
returns c =
    let e : c.push.new.self.items ≡ c.args.self.now.numbers.items ++ c.in_ok-number.number ∷ [] = c.in_ok-push.ensures.items ∙ ap (λ (l : List ℕ). l ++ c.in_ok-number.number ∷ []) c.in_ok-number.ensures.numbers in
    record {
      sorted = c.in_ok-number.ensures.sorted;
      next = subst (λ (l : List ℕ). AreRows FaceWeight (λ n. IsFaceRow (mesh_on c.args.body.now c.args.grid.now) (case_of c.args.case.mask) (face_place (counts_of c.args.grid.now) n)) (c.args.face.0 + 1) c.place.new.self.rows.items l) (sym e)
          (one_more FaceWeight (λ n. IsFaceRow (mesh_on c.args.body.now c.args.grid.now) (case_of c.args.case.mask) (face_place (counts_of c.args.grid.now) n)) (HasFaceSort c.face_sort-sort.result) c.args.face.0 c.args.self.now.rows.items c.place.new.self.rows.items c.args.self.now.numbers.items c.in_ok-number.number
          c.requires.so_far c.in_ok-number.ensures.placed c.face_sort-sort.ensures.rows);
    }
