use Rattle.std.proofs.Common.{arith}
use Rattle.tb_grid.specs.Views.{along_axes}
use Rattle.tb_grid.proofs.Corners.{corner_is_edge, edge_ends}
use Rattle.tb_grid.proofs.Few.{small, small_index}
use Rattle.tb_grid.proofs.counts.CellCounts.ends.Goals as goal

pub next-requires : goal.next-requires
next-requires c =
    let n = c.args.self in
    let low = small_index (along_axes n) c.args.axis c.args.cell (small n) c.requires.cell in
    let along = c.corner_edge-edge.ensures.along in
    omega arith

pub node_number-requires-2 : goal.node_number-requires-2
node_number-requires-2 c =
    let n = along_axes c.args.self in
    let edge = corner_is_edge n c.args.axis c.args.cell c.args.corner c.requires.cell c.requires.corner in
    rw (c.next.ensures, c.corner_edge-edge.ensures.edge) (edge_ends n c.args.axis _ edge)
