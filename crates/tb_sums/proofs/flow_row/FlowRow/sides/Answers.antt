use Rattle.tb_sums.proofs.LossRuns.{sides_loss_of}
use Rattle.tb_sums.proofs.flow_row.FlowRow.sides.Goals as goal

pub returns-clause-value : goal.returns-clause-value
returns-clause-value c =
    sides_loss_of c.args.self.now c.args.run.now c.args.i _ _ _ _ _ _ _ c.width-x.ensures c.flows_at-q.ensures.exact c.low_at.ensures.value c.high_at.ensures.value
    c.sides_loss-at_x.ensures.value c.sides_loss-at_y.ensures.value c.sides_loss-at_z.ensures.value
