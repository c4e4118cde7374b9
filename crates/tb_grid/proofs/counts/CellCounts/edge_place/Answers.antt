use Rattle.tb_places.specs.declared.AxisName.TheVariants.{X, Y, Z}
use Rattle.tb_places.proofs.Edges.{edge_place_within}
use Rattle.tb_grid.specs.Views.{along_axes}
use Rattle.tb_grid.proofs.counts.CellCounts.edge_place.Goals as goal

pub returns-in-X-clause-within : goal.returns-in-X-clause-within
returns-in-X-clause-within c =
    let below = rw c.in-X.is at c.requires in
    rw (c.in-X.is, c.by_rows.ensures) (edge_place_within (along_axes c.args.self) X c.args.edge.1 below)

pub returns-in-Y-clause-within : goal.returns-in-Y-clause-within
returns-in-Y-clause-within c =
    let below = rw c.in-Y.is at c.requires in
    rw (c.in-Y.is, c.by_rows-in-Y.ensures) (edge_place_within (along_axes c.args.self) Y c.args.edge.1 below)

pub returns-in-Z-clause-within : goal.returns-in-Z-clause-within
returns-in-Z-clause-within c =
    let below = rw c.in-Z.is at c.requires in
    rw (c.in-Z.is, c.by_rows-in-Z.ensures) (edge_place_within (along_axes c.args.self) Z c.args.edge.1 below)
