use Rattle.std.proofs.Common.{◌≡◌, ap, ◌∙◌, arith}
use Rattle.std.proofs.lemmas.Int.{ints}
use mir.Syntax.{w64, w128}
use mir.Val.{to_z, of_z}
use lib.IntN.{ℤ, pos, ◌*ℤ◌}
use Rattle.tb_relax.specs.Tables.{flux_forms}
use Rattle.tb_weighted.proofs.Pulls.{flow_slope_at}
use Rattle.tb_relax.proofs.table.Table.flow_at.Goals as goal

pub returns-clause-rate : goal.returns-clause-rate
unfolding flux_forms
returns-clause-rate c =
    let same : to_z w128 (of_z w128 c.pull_of-pull.result.rate) ≡ c.pull_of-pull.result.rate = omega (arith, ints, c.pull_of-pull.ensures.rate_small) in
    same ∙ c.pull_of-pull.ensures.rate ∙ ap pos c.face-face.ensures.flux

pub returns-clause-slope : goal.returns-clause-slope
unfolding flux_forms
returns-clause-slope c =
    let ps = c.pull_of-pull.ensures.slope_small in
    let ts = c.twice.ensures.size in
    let ss = c.source.ensures.size in
    let vs = c.plus.ensures.size in
    let tv = c.twice.ensures.value in
    let pv = c.plus.ensures.value in
    let here : to_z w64 (of_z w64 c.args.here) ≡ c.args.here = omega (arith, ints) in
    flow_slope_at _ c.twice.result c.pull_of-pull.result.slope c.source.result _ c.args.here _ _ (omega (arith, ints)) (omega (arith, ints)) (c.pull_of-pull.ensures.slope ∙ ap (λ (h : ℤ). pos c.face-face.result.flux *ℤ h) here) (ap pos c.face-face.ensures.flux) (c.source.ensures.value ∙ c.face-face.ensures.source)
