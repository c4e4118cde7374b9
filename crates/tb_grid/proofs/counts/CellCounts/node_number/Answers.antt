use Rattle.std.proofs.Common.{arith}
use Rattle.tb_places.proofs.Nodes.{node_number_below}
use Rattle.tb_grid.specs.Views.{along_axes}
use Rattle.tb_grid.proofs.Few.{small, small_node}
use Rattle.tb_grid.proofs.counts.CellCounts.node_number.Goals as goal

pub overflow_mul-result-2 : goal.overflow_mul-result-2
overflow_mul-result-2 c =
    let n = c.args.self in let p = c.args.place in
    let s = small n in
    let below = small_node (along_axes n) p s c.requires in omega arith

pub returns-clause-within : goal.returns-clause-within
returns-clause-within c =
    let p = c.args.place in node_number_below (along_axes c.args.self) p c.requires
