use Rattle.std.proofs.Common.{arith}
use Rattle.tb_grid.specs.Views.{along_axes}
use Rattle.tb_grid.proofs.Few.{small, few_faces}
use Rattle.tb_grid.proofs.counts.CellCounts.faces.Goals as goal

pub overflow_mul-result : goal.overflow_mul-result
overflow_mul-result c =
    let n = c.args.self in let s = small n in
    let below = few_faces (along_axes n) s in rw c.faces_a_layer.ensures (omega arith)

pub overflow_add-result : goal.overflow_add-result
overflow_add-result c =
    let n = c.args.self in let s = small n in
    let below = few_faces (along_axes n) s in rw c.faces_a_layer.ensures (omega arith)
