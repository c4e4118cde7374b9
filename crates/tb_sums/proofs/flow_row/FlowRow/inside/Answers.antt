use Rattle.tb_sums.proofs.LossRuns.{inside_loss_of}
use Rattle.tb_sums.proofs.flow_row.FlowRow.inside.Goals as goal

pub returns-clause-value : goal.returns-clause-value
returns-clause-value c =
    let cell = c.args.cell in let r = c.requires in
    inside_loss_of c.args.self.now cell.lambda c.args.i cell.x.width cell.y cell.z _ _ r.x r.y r.z c.flows_at.ensures.exact c.loss.ensures.value
