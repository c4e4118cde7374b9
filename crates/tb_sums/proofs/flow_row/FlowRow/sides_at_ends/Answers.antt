use Rattle.std.proofs.Common.{◌∙◌, ◌-◌, ◌<◌, arith}
use Rattle.tb_sums.proofs.ClosedRuns.{loss_of_ends, loss_of_one}
use Rattle.tb_sums.proofs.Runs.{two_parts}
use Rattle.tb_sums.proofs.flow_row.FlowRow.sides_at_ends.Goals as goal

pub returns-then-run-last-clause-value : goal.returns-then-run-last-clause-value
returns-then-run-last-clause-value c = c.sides-first.ensures.value ∙ loss_of_one c.args.self.now c.args.run.now c.requires.from c.if-run-last.true

pub returns-clause-value : goal.returns-clause-value
returns-clause-value c =
    let run = c.args.run.now in let some = c.requires.from in let other = c.if-run-last.false in
    let more : run.from < run.to - 1 = omega arith in
    two_parts c.sides-first.result c.sides.result _ _ c.sides-first.ensures.value c.sides.ensures.value ∙ loss_of_ends c.args.self.now run c.requires.closed more
