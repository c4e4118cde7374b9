use Rattle.std.proofs.Common.{◌≡◌, ◌∙◌, arith}
use Rattle.std.proofs.lemmas.Int.{ints}
use mir.Syntax.{w64, w128}
use mir.Val.{to_z, of_z}
use Rattle.tb_relax.specs.Joining.{AllGo}
use Rattle.tb_relax.proofs.Ranges.{least_within}
use Rattle.tb_relax.proofs.joining.multiple.Goals as goal

pub returns-clause-least : goal.returns-clause-least
returns-clause-least c =
    let a = c.nearest_step.ensures.above in
    let b = c.nearest_step.ensures.below in
    let u = c.all_joined-all.ensures.under in
    let o = c.all_joined-all.ensures.over in
    let l = c.all_joined-all.ensures.low_far in
    let h = c.all_joined-all.ensures.high_far in
    let low : to_z w64 (of_z w64 c.all_joined-all.result.low) ≡ c.all_joined-all.result.low = omega (arith, ints) in
    let high : to_z w64 (of_z w64 c.all_joined-all.result.high) ≡ c.all_joined-all.result.high = omega (arith, ints) in
    let step : to_z w64 (of_z w64 c.nearest_step.result) ≡ c.nearest_step.result = omega (arith, ints) in
    let r : to_z w128 (of_z w128 c.all_joined-all.result.pull.rate) ≡ c.all_joined-all.result.pull.rate = omega (arith, ints, c.all_joined-all.ensures.rate_small) in
    let s : to_z w128 (of_z w128 c.all_joined-all.result.pull.slope) ≡ c.all_joined-all.result.pull.slope = omega (arith, ints, c.all_joined-all.ensures.slope_small) in
    least_within _ _ _ _ c.all_joined-all.result.low _ c.all_joined-all.result.high _ c.nearest_step.result _ (AllGo c.args.parts) (r ∙ c.all_joined-all.ensures.rate) (s ∙ c.all_joined-all.ensures.slope) low high step c.all_joined-all.ensures.within c.nearest_step.ensures
