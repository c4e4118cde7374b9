use Rattle.std.proofs.Common.{◌≡◌, ◌+◌, ◌∙◌, ap, sym, rules}
use Rattle.tb_places.specs.Along.{node_stride}
use Rattle.tb_places.specs.Inverse.{cell_place}
use Rattle.tb_places.proofs.Steps.{node_step}
use Rattle.tb_grid.specs.Direction.{edge_of, high_end_of, low_end_of}
use Rattle.tb_grid.specs.Grid.{counts_of}
use Rattle.tb_grid.proofs.Corners.{corner_of_cell}
use Rattle.tb_grid.proofs.direction.Direction.ends.Goals as goal

pub returns-clause-edge : goal.returns-clause-edge
returns-clause-edge g c =
    corner_of_cell g.Self.Direction.AXIS (cell_place (counts_of c.args.grid.now) c.args.cell.0) c.args.corner c.requires.corner

pub returns-clause-rising : goal.returns-clause-rising
returns-clause-rising g c =
    let n = counts_of c.args.grid.now in let a = g.Self.Direction.AXIS in
    let low : c.ends.result.0.0 ≡ low_end_of n a c.args.cell.0 c.args.corner = search rules in
    let high : c.ends.result.1.0 ≡ high_end_of n a c.args.cell.0 c.args.corner = search rules in
    high ∙ node_step n a (edge_of n a c.args.cell.0 c.args.corner) ∙ ap (λ m. m + node_stride n a) (sym low)
