use Rattle.std.proofs.Common.{arith}
use Rattle.tb_rows.specs.Rows.{mesh_under}
use Rattle.tb_rows.proofs.Sums.{rows_start, rows_step}
use Rattle.tb_sums.specs.BodyFields.{terms_under}
use Rattle.tb_sums.proofs.Runs.{one_more}
use Rattle.tb_sums.proofs.energy.BodyField.layer.Goals as goal

pub loop-j-init : goal.loop-j-init
loop-j-init c = record { value = rows_start (mesh_under c.args.self.now.rows) (terms_under c.args.self.now) c.args.k; most = omega arith }

pub loop-j-preserved : goal.loop-j-preserved
loop-j-preserved c =
    let f = c.args.self.now in
    record {
      value = one_more c.loop-j.total c.row-total.result _ _ _ c.loop-j.invariant.value c.row-total.ensures.value (rows_step (mesh_under f.rows) (terms_under f) c.args.k c.loop-j.j);
      most = omega (arith, c.loop-j.invariant.most, c.row-total.ensures.most);
    }
