use Rattle.std.proofs.Common.{◌∙◌, ◌-◌, arith}
use Rattle.tb_sums.proofs.LossRuns.{loss_parts}
use Rattle.tb_sums.proofs.Runs.{two_parts}
use Rattle.tb_sums.proofs.flow_row.FlowRow.loss.Goals as goal

pub returns-clause-value : goal.returns-clause-value
returns-clause-value c =
    let run = c.args.run.now in
    two_parts c.inside_all.result c.sides_all.result _ _ c.inside_all.ensures.value c.sides_all.ensures.value ∙ loss_parts c.args.self.now run (run.to - run.from)

pub returns-clause-most : goal.returns-clause-most
returns-clause-most c = omega (arith, c.inside_all.ensures.most, c.sides_all.ensures.most)
