use Rattle.std.proofs.Common.{ap, sym, ◌∙◌}
use Rattle.std.specs.Option.{option_map}
use Rattle.tb_places.proofs.Meeting.{cell_below_face}
use Rattle.tb_grid.specs.Grid.{counts_of}
use Rattle.tb_geometry.specs.Bodies.{filled_with}
use Rattle.tb_geometry.specs.Grids.{mesh_on}
use Rattle.tb_geometry.proofs.Sides.{below_found}
use Rattle.tb_geometry.proofs.body.Body.below.Goals as goal

pub occupant_at-requires-clause-cell : goal.occupant_at-requires-clause-cell
occupant_at-requires-clause-cell c =
    let n = counts_of c.args.grid.now in let a = c.args.face.axis in
    cell_below_face n a c.cell_below.result (rw c.cell_below.ensures c.requires.face)

pub returns : goal.returns
returns c =
    c.occupant_at.ensures ∙ ap (option_map (filled_with c.args.self.now.materials))
    (sym (below_found (mesh_on c.args.self.now c.args.grid.now) c.args.face.axis c.args.face.place c.cell_below.result c.cell_below.ensures))
