use Rattle.tb_places.proofs.Nodes.{node_place_within}
use Rattle.tb_grid.specs.Views.{along_axes}
use Rattle.tb_grid.proofs.counts.CellCounts.node_place.Goals as goal

pub returns-clause-within : goal.returns-clause-within
returns-clause-within c = rw c.by_rows.ensures (node_place_within (along_axes c.args.self) c.args.node.0 c.requires)
