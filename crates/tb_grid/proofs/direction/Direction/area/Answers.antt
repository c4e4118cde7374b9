use Rattle.std.proofs.Common.{◌≡◌, ◌*◌, ◌∙◌, ap, rules}
use Rattle.tb_places.specs.Inverse.{cell_place}
use Rattle.tb_grid.specs.Direction.{area_of, width_of}
use Rattle.tb_grid.specs.Grid.{counts_of}
use Rattle.tb_grid.proofs.Volumes.{same_volume}
use Rattle.tb_grid.proofs.direction.Direction.area.Goals as goal

pub returns-clause-volume : goal.returns-clause-volume
returns-clause-volume g c =
    let grid = c.args.grid.now in let own = g.Self.Direction.AXIS in
    let p = cell_place (counts_of grid) c.args.cell.0 in
    let area : c.from.result * c.from-2.result ≡ area_of grid own p = search rules in
    λ a. ap (λ m. width_of grid own p * m) area ∙ same_volume grid own a p
