use Rattle.std.proofs.Common.{◌≡◌, ◌∙◌, ◌-◌, ◌<◌, arith, rules, to_z, of_z, ℤ, ap, ◌+ℤ◌}
use Rattle.tb_sums.specs.LossSums.{entered_at}
use Rattle.tb_sums.proofs.ClosedRuns.{entered_of_ends, entered_of_one}
use Rattle.tb_sums.proofs.flow_row.FlowRow.entering_at_ends.Goals as goal
use mir.Syntax.{w128}

pub returns-then-run-last-clause-value : goal.returns-then-run-last-clause-value
returns-then-run-last-clause-value c =
    let first : to_z w128 (of_z w128 c.cell_entering-first.result) ≡ c.cell_entering-first.result = search rules in
    first ∙ c.cell_entering-first.ensures.value ∙ entered_of_one c.args.self.now c.args.run.now c.requires.from c.if-run-last.true

pub returns-clause-value : goal.returns-clause-value
returns-clause-value c =
    let run = c.args.run.now in let some = c.requires.from in let other = c.if-run-last.false in
    let more : run.from < run.to - 1 = omega arith in
    let whole : to_z w128 (of_z w128 c.two.result) ≡ c.two.result = search rules in
    let first : to_z w128 (of_z w128 c.cell_entering-first.result) ≡ c.cell_entering-first.result = search rules in
    let last : to_z w128 (of_z w128 c.cell_entering.result) ≡ c.cell_entering.result = search rules in
    whole ∙ c.two.ensures.value
    ∙ ap (λ (z : ℤ). z +ℤ to_z w128 (of_z w128 c.cell_entering.result)) (first ∙ c.cell_entering-first.ensures.value)
    ∙ ap (λ (z : ℤ). entered_at c.args.self.now run run.from +ℤ z) (last ∙ c.cell_entering.ensures.value)
    ∙ entered_of_ends c.args.self.now run c.requires.closed more
