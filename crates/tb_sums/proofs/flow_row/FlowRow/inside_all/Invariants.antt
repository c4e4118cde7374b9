use Rattle.std.proofs.Common.{◌≡◌, ◌*◌, ◌^◌, ◌≤◌, pos}
use Rattle.tb_sums.specs.LossSums.{inside_loss}
use Rattle.tb_sums.proofs.flow_row.FlowRow.inside_all.Given as goal

abbrev pub invariant-loop-n : goal.invariant-loop-n
invariant-loop-n l = record {
  value : pos l.total ≡ inside_loss l.self l.run l.n;
  most : l.total ≤ l.n * (15 * 10 ^ 34);
  lambda : l.cell.lambda ≡ l.run.lambda;
  y : l.cell.y ≡ l.self.y.width;
  z : l.cell.z ≡ l.self.z.width;
}
