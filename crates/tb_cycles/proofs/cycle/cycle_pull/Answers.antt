use Rattle.std.proofs.Common.{◌≡◌, rules, ◌∙◌, of_z, to_z}
use mir.Syntax.{w128}
use Rattle.tb_grid.specs.Views.{along_axes}
use Rattle.tb_cycles.proofs.CycleSums.{pulled}
use Rattle.tb_cycles.proofs.Outward.{cell_within}
use Rattle.tb_cycles.proofs.cycle.cycle_pull.Goals as goal

pub pull_of_entry-requires-clause-entry : goal.pull_of_entry-requires-clause-entry
pull_of_entry-requires-clause-entry g c =
    cell_within (along_axes c.args.counts) c.args.marks.now c.args.sides.now c.requires.leads c.args.entry.cell.0 c.requires.entry

pub returns-clause-value : goal.returns-clause-value
returns-clause-value g c = λ m same leads f flows entry cycle.
    let sum : to_z w128 (of_z w128 c.minus.result) ≡ c.minus.result = search rules in
    let along : to_z w128 (of_z w128 c.pull_outward.result) ≡ c.pull_outward.result = search rules in
    let entering : to_z w128 (of_z w128 c.pull_of_entry.result) ≡ c.pull_of_entry.result = search rules in
    pulled (along_axes c.args.counts) m c.args.marks.now c.args.sides.now (g.P.FacePull.pulls c.args.pulls.now) f c.args.entry.cell.0 c.args.entry.side flows
    (to_z w128 (of_z w128 c.pull_outward.result)) (to_z w128 (of_z w128 c.pull_of_entry.result)) (to_z w128 (of_z w128 c.minus.result)) same leads entry cycle
    (λ es outward. along ∙ c.pull_outward.ensures.value m same leads es outward)
    (entering ∙ c.pull_of_entry.ensures.value) (sum ∙ c.minus.ensures.value)
