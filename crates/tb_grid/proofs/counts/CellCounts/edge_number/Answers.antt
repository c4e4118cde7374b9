use Rattle.std.proofs.Common.{arith}
use Rattle.tb_places.proofs.Edges.{edge_number_below}
use Rattle.tb_grid.specs.Views.{along_axes}
use Rattle.tb_grid.proofs.Few.{small, small_edge}
use Rattle.tb_grid.proofs.counts.CellCounts.edge_number.Goals as goal

pub overflow_mul-result-in-X : goal.overflow_mul-result-in-X
overflow_mul-result-in-X c =
    let n = c.args.self in let p = c.args.place in
    let s = small n in
    let below = small_edge (along_axes n) c.args.axis p s c.requires in
    let here = rw c.in-X.is at below in omega arith

pub overflow_add-result-in-X-2 : goal.overflow_add-result-in-X-2
overflow_add-result-in-X-2 c =
    let n = c.args.self in let p = c.args.place in
    let s = small n in
    let below = small_edge (along_axes n) c.args.axis p s c.requires in
    let here = rw c.in-X.is at below in omega arith

pub returns-in-X-clause-within : goal.returns-in-X-clause-within
returns-in-X-clause-within c =
    let p = c.args.place in
    let below = edge_number_below (along_axes c.args.self) c.args.axis p c.requires in
    rw c.in-X.is (rw c.in-X.is at below)

pub returns-in-Y-clause-within : goal.returns-in-Y-clause-within
returns-in-Y-clause-within c =
    let p = c.args.place in
    let below = edge_number_below (along_axes c.args.self) c.args.axis p c.requires in
    rw c.in-Y.is (rw c.in-Y.is at below)

pub returns-in-Z-clause-within : goal.returns-in-Z-clause-within
returns-in-Z-clause-within c =
    let p = c.args.place in
    let below = edge_number_below (along_axes c.args.self) c.args.axis p c.requires in
    rw c.in-Z.is (rw c.in-Z.is at below)
