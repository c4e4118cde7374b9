use Rattle.std.proofs.Common.{◌≡◌, ◌-◌, ℕ, arith, subst}
use Rattle.tb_grid.specs.Views.{along_axes}
use Rattle.tb_walk.specs.Spreading.{IsNextCell}
use Rattle.tb_walk.proofs.NextCells.{before_place}
use Rattle.tb_walk.proofs.neighbours.PlacedCell.before.Goals as goal

pub overflow_sub-result : goal.overflow_sub-result
overflow_sub-result c =
    let cell = c.args.self in
    let found = before_place (along_axes cell.counts) c.args.axis cell.cell.0 cell.place cell.within cell.placed (λ start. c.if-along-eq0.false (omega arith)) in
    let steps = found.1 in
    omega arith

pub returns : goal.returns
returns c =
    let cell = c.args.self in
    let found = before_place (along_axes cell.counts) c.args.axis cell.cell.0 cell.place cell.within cell.placed (λ start. c.if-along-eq0.false (omega arith)) in
    let steps = found.1 in
    let same : found.0 ≡ cell.cell.0 - c.cell_stride.result = omega arith in
    subst (λ (d : ℕ). IsNextCell (along_axes cell.counts) c.args.axis d cell.cell.0) same found.2
