use Rattle.std.proofs.Common.{rules, arith, ℕ, ◌≡◌, ◌*◌, ◌^◌, ◌<◌, ◌≤◌}
use Rattle.std.proofs.Math.Nat.{mul-le-mul_right}
use Rattle.tb_planar.specs.Printed.{layer_across}
use Rattle.tb_planar.specs.Sections.{total_area, weighted_conductivity}
use Rattle.tb_planar.proofs.Sizes.{quotient-size}
use Rattle.tb_planar.proofs.part.layer_across.Goals as goal

bounded : (t a w : ℕ) → t ≤ 500000 → a ≤ w → t * a * 10 ^ 16 ≤ 5 * 10 ^ 21 * w
bounded t a w h k = omega (arith, mul-le-mul_right a h)

pub returns-clause-size : goal.returns-clause-size
returns-clause-size c =
    let area = c.total_area.ensures in
    let weight = c.weighted_conductivity.ensures in
    let value : c.quotient.result ≡ layer_across c.args.detail.now c.args.part.now c.args.layer.now = search rules in
    let positive : 0 < weighted_conductivity c.args.detail.now c.args.part.now c.args.layer.now = omega (arith, area.value, area.positive, weight.value, weight.at_least) in
    let at_least : total_area c.args.part.now ≤ weighted_conductivity c.args.detail.now c.args.part.now c.args.layer.now = omega (arith, weight.value, weight.at_least) in
    rw value (quotient-size (c.args.layer.now.thickness * total_area c.args.part.now * 10 ^ 16) (weighted_conductivity c.args.detail.now c.args.part.now c.args.layer.now) (5 * 10 ^ 21)
    positive (bounded c.args.layer.now.thickness (total_area c.args.part.now) (weighted_conductivity c.args.detail.now c.args.part.now c.args.layer.now) c.requires.layer.layer.thickness.high at_least))
