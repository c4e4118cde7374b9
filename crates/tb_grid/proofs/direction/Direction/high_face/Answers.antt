use Rattle.std.proofs.Common.{◌≡◌, ◌∙◌, rules}
use Rattle.tb_places.specs.Inverse.{cell_place}
use Rattle.tb_places.proofs.Steps.{face_step}
use Rattle.tb_grid.specs.Direction.{high_face_of}
use Rattle.tb_grid.specs.Grid.{counts_of}
use Rattle.tb_grid.proofs.Neighbours.{shared_face}
use Rattle.tb_grid.proofs.direction.Direction.high_face.Goals as goal

pub returns-clause-shared : goal.returns-clause-shared
returns-clause-shared g c =
    let n = counts_of c.args.grid.now in let a = g.Self.Direction.AXIS in
    let face : c.high_face.result.0 ≡ high_face_of n a c.args.cell.0 = search rules in
    λ before. face ∙ shared_face n a c.args.cell.0 c.requires before

pub returns-clause-stride : goal.returns-clause-stride
returns-clause-stride g c =
    let n = counts_of c.args.grid.now in let a = g.Self.Direction.AXIS in
    let face : c.high_face.result.0 ≡ high_face_of n a c.args.cell.0 = search rules in
    face ∙ face_step n a a (cell_place n c.args.cell.0)
