use Rattle.std.proofs.Common.{◌≡◌, ◌∙◌, refl, ap, arith, ◌*◌, ◌^◌}
use lib.IntN.{pos}
use Rattle.tb_tables.specs.Weights.{rounded_weight}
use Rattle.tb_tables.proofs.Quotients.{positive_product, surface_flux_is}
use Rattle.tb_tables.proofs.weights.surface_flux.Goals as goal

pub returns : goal.returns
returns c =
    let same : c.rounded.result ≡ rounded_weight (3 * c.args.rs * 2 ^ 44) (c.args.area * 10 ^ 4) = c.rounded.ensures.value ∙ rw (c.from.ensures, c.from-2.ensures) refl in
    ap pos same ∙ surface_flux_is c.args.rs c.args.area (positive_product c.args.area (10 ^ 4) c.requires.area.above_zero (omega arith))
