use Rattle.std.proofs.Common.{◌≡◌, rules, of_z, to_z}
use mir.Syntax.{w64, w128}
use Rattle.tb_relax.specs.Joining.{Within}
use Rattle.tb_relax.proofs.Ranges.{least_within}
use Rattle.tb_cycle_moves.proofs.moves.least.Goals as goal

pub returns : goal.returns
returns c =
    let reach = c.args.reach in
    let step : to_z w64 (of_z w64 c.nearest_step.result) ≡ c.nearest_step.result = search rules in
    let low : to_z w64 (of_z w64 c.args.reach.low) ≡ c.args.reach.low = search rules in
    let high : to_z w64 (of_z w64 c.args.reach.high) ≡ c.args.reach.high = search rules in
    let rate : to_z w128 (of_z w128 c.args.reach.pull.rate) ≡ c.args.reach.pull.rate = search rules in
    let slope : to_z w128 (of_z w128 c.args.reach.pull.slope) ≡ c.args.reach.pull.slope = search rules in
    least_within _ _ _ _ c.args.reach.low _ c.args.reach.high _ c.nearest_step.result _ (Within c.args.reach) rate slope low high step (λ y. ((λ p. p), (λ p. p))) c.nearest_step.ensures
