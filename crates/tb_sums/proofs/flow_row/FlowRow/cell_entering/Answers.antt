use Rattle.std.proofs.Common.{◌≡◌, ◌∙◌, rules, to_z, of_z}
use Rattle.tb_sums.proofs.LossRuns.{entered_of}
use Rattle.tb_sums.proofs.flow_row.FlowRow.cell_entering.Goals as goal
use mir.Syntax.{w128}

pub returns-clause-value : goal.returns-clause-value
returns-clause-value c =
    let x : to_z w128 (of_z w128 c.entering-x.result) ≡ c.entering-x.result = search rules in
    let y : to_z w128 (of_z w128 c.entering-y.result) ≡ c.entering-y.result = search rules in
    let z : to_z w128 (of_z w128 c.entering-z.result) ≡ c.entering-z.result = search rules in
    let whole : to_z w128 (of_z w128 c.three.result) ≡ c.three.result = search rules in
    whole ∙ c.three.ensures.value
    ∙ entered_of c.args.self.now c.args.run.now c.args.i _ _ _ _ _ _ c.flows_at-q.ensures.exact c.low_at.ensures.value c.high_at.ensures.value
    (x ∙ c.entering-x.ensures.value) (y ∙ c.entering-y.ensures.value) (z ∙ c.entering-z.ensures.value)
