use Rattle.std.proofs.Common.{arith}
use Rattle.tb_grid.specs.Views.{along_axes}
use Rattle.tb_walk.proofs.NextCells.{after_place}
use Rattle.tb_walk.proofs.neighbours.PlacedCell.after.Goals as goal

pub overflow_add-result : goal.overflow_add-result
overflow_add-result c =
    let cell = c.args.self in
    let next = after_place (along_axes cell.counts) c.args.axis cell.cell.0 cell.place cell.within cell.placed (λ end. c.if-along.false (omega arith)) in
    let within = next.second in
    omega arith

pub returns : goal.returns
returns c =
    let cell = c.args.self in
    rw c.cell_stride.ensures (after_place (along_axes cell.counts) c.args.axis cell.cell.0 cell.place cell.within cell.placed (λ end. c.if-along.false (omega arith)))
