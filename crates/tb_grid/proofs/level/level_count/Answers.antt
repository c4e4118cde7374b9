use Rattle.std.proofs.Common.{arith}
use Rattle.tb_grid.proofs.CutLines.{count_step, count_last_step}
use Rattle.tb_grid.proofs.LevelLines.{level_length}
use Rattle.tb_grid.proofs.Pieces.{count_few}
use Rattle.tb_grid.proofs.level.level_count.Goals as goal

pub overflow_add-count : goal.overflow_add-count
overflow_add-count c =
    let a = c.args in let axis = c.intervals-i-end.ensures.axis in let least = axis.least in
    let here = rw c.width.ensures.width at c.pieces_graded-count.ensures.pieces in
    let step = count_step a.halve a.grade a.axis.now c.loop-i.i (omega arith) in
    let few = count_few a.halve a.grade a.axis.now axis.rising (omega arith) in
    omega (arith, here, step, few, c.loop-i.invariant)

pub loop-i-preserved : goal.loop-i-preserved
loop-i-preserved c =
    let a = c.args in let axis = c.intervals-i-end.ensures.axis in
    let here = rw c.width.ensures.width at c.pieces_graded-count.ensures.pieces in
    let step = count_step a.halve a.grade a.axis.now c.loop-i.i (omega arith) in
    omega (arith, here, step, c.loop-i.invariant)

pub returns : goal.returns
returns c =
    let a = c.args in let axis = c.intervals-i-end.ensures.axis in let least = axis.least in
    let last = count_last_step a.halve a.grade a.axis.now c.loop-i.i (omega arith) in
    λ lines level.
    let length = level_length a.grade a.halve a.axis.now lines axis.rising level in
    omega (arith, last, length, c.loop-i.invariant)
