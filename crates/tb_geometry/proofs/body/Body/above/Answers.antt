use Rattle.std.proofs.Common.{◌≢◌, ap, sym, ◌∙◌}
use Rattle.std.specs.Option.{option_map}
use Rattle.tb_places.specs.Places.{Counts}
use Rattle.tb_places.specs.Along.{index_along}
use Rattle.tb_grid.specs.Grid.{counts_of}
use Rattle.tb_geometry.specs.Bodies.{filled_with}
use Rattle.tb_geometry.proofs.Sides.{above_found, cell_above_face}
use Rattle.tb_places.proofs.ByAxis.{same_by_axis}
use Rattle.tb_geometry.proofs.body.Body.above.Goals as goal

pub returns : goal.returns
returns c =
    let g = c.args.grid.now in
    let a = c.args.face.axis in
    let p = c.args.face.place in
    let here = c.counts.ensures in
    let counts = same_by_axis (counts_of g) c.counts.result.x c.counts.result.y c.counts.result.z here.on_x here.on_y here.on_z in
    let last = c.along-2.ensures ∙ ap (λ (n : Counts). n a) counts in
    let not_last : index_along a p ≢ counts_of g a = rw (← c.along.ensures, ← last) c.if-along.false in
    c.occupant_at.ensures ∙ ap (option_map (filled_with c.args.self.now.materials))
    (sym (above_found c.args.self.now g a p (cell_above_face (counts_of g) a p c.requires.face not_last)))
