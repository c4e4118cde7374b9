use Rattle.std.proofs.Common.{◌≡◌, ◌*◌, ◌^◌, ◌≤◌, pos}
use Rattle.tb_sums.specs.LossSums.{sides_loss}
use Rattle.tb_sums.proofs.flow_row.FlowRow.sides_all.Given as goal

abbrev pub invariant-loop-n : goal.invariant-loop-n
invariant-loop-n l = record { value : pos l.total ≡ sides_loss l.self l.run l.n; most : l.total ≤ l.n * (6 * 10 ^ 30) }
