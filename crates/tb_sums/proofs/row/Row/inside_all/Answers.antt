use Rattle.std.proofs.Common.{arith}
use Rattle.tb_sums.proofs.Runs.{inside_start, inside_step, one_more}
use Rattle.tb_sums.proofs.row.Row.inside_all.Goals as goal

pub loop-n-init : goal.loop-n-init
loop-n-init c = record { value = inside_start c.args.self.now c.args.run.now; most = omega arith }

pub loop-n-preserved : goal.loop-n-preserved
loop-n-preserved c =
    record {
      value = one_more c.loop-n.total c.inside-total.result _ _ _ c.loop-n.invariant.value c.inside-total.ensures.value (inside_step c.args.self.now c.args.run.now c.loop-n.n);
      most = omega (arith, c.loop-n.invariant.most, c.inside-total.ensures.most);
    }
