use Rattle.std.proofs.Common.{arith}
use Rattle.tb_rows.specs.Rows.{mesh_under}
use Rattle.tb_rows.proofs.Sums.{layers_start, layers_step}
use Rattle.tb_sums.specs.BodyFields.{terms_under}
use Rattle.tb_sums.proofs.Runs.{one_more}
use Rattle.tb_sums.proofs.energy.BodyField.energy.Goals as goal

pub loop-k-init : goal.loop-k-init
loop-k-init c = record { value = layers_start (mesh_under c.args.self.now.rows) (terms_under c.args.self.now); most = omega arith }

pub loop-k-preserved : goal.loop-k-preserved
loop-k-preserved c =
    let f = c.args.self.now in
    record {
      value = one_more c.loop-k.total c.layer-total.result _ _ _ c.loop-k.invariant.value c.layer-total.ensures.value (layers_step (mesh_under f.rows) (terms_under f) c.loop-k.k);
      most = omega (arith, c.loop-k.invariant.most, c.layer-total.ensures.most);
    }
