use Rattle.std.proofs.Common.{ap, ◌∙◌}
use Rattle.tb_places.specs.declared.FacePlace.{FacePlace}
use Rattle.tb_places.specs.Inverse.{face_place}
use Rattle.tb_places.specs.Places.{Counts}
use Rattle.tb_grid.specs.Grid.{counts_of}
use Rattle.tb_model.specs.Mesh.{kind_at}
use Rattle.tb_geometry.specs.Grids.{mesh_on}
use Rattle.tb_geometry.proofs.Sides.{kind_found}
use Rattle.tb_places.proofs.ByAxis.{same_by_axis}
use Rattle.tb_geometry.proofs.body.Body.kind.Goals as goal

pub returns : goal.returns
returns c =
    let d = c.args.self.now in
    let g = c.args.grid.now in
    let here = c.counts.ensures in
    let counts = same_by_axis (counts_of g) c.counts.result.x c.counts.result.y c.counts.result.z here.on_x here.on_y here.on_z in
    let place = c.face_place-face.ensures.place ∙ ap (λ (n : Counts). face_place n c.args.face.0) counts in
    c.kind_from.ensures
    ∙ kind_found (mesh_on d g) d.materials c.face_place-face.result c.below.result c.above.result c.below.ensures c.above.ensures
    ∙ ap (λ (f : FacePlace). kind_at (mesh_on d g) f.axis f.place) place
