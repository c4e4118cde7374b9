use Rattle.std.proofs.Common.{◌≡◌, ◌∙◌, refl, ap, ◌*◌, ◌^◌}
use lib.IntN.{pos}
use Rattle.tb_tables.specs.Weights.{rounded_weight}
use Rattle.tb_tables.proofs.Quotients.{positive_product, flux_is}
use Rattle.tb_tables.proofs.weights.flux.Goals as goal

pub returns : goal.returns
returns c =
    let same : c.rounded.result ≡ rounded_weight (c.args.width * 2 ^ 44) (c.args.area * c.args.lambda) = c.rounded.ensures.value ∙ rw (c.from.ensures, c.from-2.ensures, c.from-3.ensures) refl in
    ap pos same ∙ flux_is c.args.lambda c.args.width c.args.area (positive_product c.args.area c.args.lambda c.requires.area.above_zero c.requires.lambda.above_zero)
