use Rattle.std.proofs.Common.{rules, arith, ◌≡◌, ◌*◌, ◌^◌, ◌<◌}
use Rattle.tb_planar.specs.Printed.{layer_in_section}
use Rattle.tb_planar.specs.Sections.{conductivity}
use Rattle.tb_planar.proofs.Sizes.{quotient-size}
use Rattle.tb_planar.proofs.part.layer_in_section.Goals as goal

pub returns-clause-size : goal.returns-clause-size
returns-clause-size c =
    let value : c.quotient.result ≡ layer_in_section c.args.detail.now c.args.layer.now c.args.section = search rules in
    let t = c.requires.layer.layer.thickness.high in
    let positive : 0 < conductivity c.args.detail.now c.args.layer.now c.args.section = rw (← c.conductivity-lambda.ensures.value) c.conductivity-lambda.ensures.positive in
    rw value (quotient-size (c.args.layer.now.thickness * 10 ^ 16) (conductivity c.args.detail.now c.args.layer.now c.args.section) (5 * 10 ^ 21) positive (omega arith))
