use Rattle.std.proofs.Common.{arith}
use Rattle.tb_sums.proofs.Runs.{one_more, sides_start, sides_step}
use Rattle.tb_sums.proofs.row.Row.sides_all.Goals as goal

pub loop-n-init : goal.loop-n-init
loop-n-init c = record { value = sides_start c.args.self.now c.args.run.now; most = omega arith }

pub loop-n-preserved : goal.loop-n-preserved
loop-n-preserved c =
    record {
      value = one_more c.loop-n.total c.sides-total.result _ _ _ c.loop-n.invariant.value c.sides-total.ensures.value (sides_step c.args.self.now c.args.run.now c.loop-n.n);
      most = omega (arith, c.loop-n.invariant.most, c.sides-total.ensures.most);
    }
