use Rattle.std.proofs.Common.{◌∙◌, ◌+◌, ℕ, ap, arith}
use Rattle.tb_sums.specs.LossSums.{inside_loss_at}
use Rattle.tb_sums.proofs.LossRuns.{inside_loss_start, inside_loss_step}
use Rattle.tb_sums.proofs.Runs.{one_more}
use Rattle.tb_sums.proofs.flow_row.FlowRow.inside_all.Goals as goal

pub loop-n-init : goal.loop-n-init
loop-n-init c = record {
  value = inside_loss_start c.args.self.now c.args.run.now;
  most = omega arith;
  lambda = c.new-cell.ensures.lambda;
  y = c.new-cell.ensures.y;
  z = c.new-cell.ensures.z;
}

pub loop-n-preserved : goal.loop-n-preserved
loop-n-preserved c =
    let l = c.loop-n in let cell = c.of_width-cell.ensures in let run = c.args.run.now in
    let lambda = cell.lambda ∙ l.invariant.lambda in
    record {
      value = one_more l.total c.inside-total.result _ _ _ l.invariant.value
          (c.inside-total.ensures.value ∙ ap (λ (k : ℕ). inside_loss_at c.args.self.now k (run.from + l.n)) lambda) (inside_loss_step c.args.self.now run l.n);
      most = omega (arith, l.invariant.most, c.inside-total.ensures.most);
      lambda = lambda;
      y = cell.y ∙ l.invariant.y;
      z = cell.z ∙ l.invariant.z;
    }
