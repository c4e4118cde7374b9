use Rattle.std.proofs.Common.{◌≡◌, ◌∙◌, refl, ap, ◌*◌, ◌^◌}
use lib.IntN.{pos}
use Rattle.tb_tables.specs.Weights.{rounded_weight}
use Rattle.tb_tables.proofs.Quotients.{surface_field_is}
use Rattle.tb_tables.proofs.weights.surface_field.Goals as goal

pub returns-clause-weight : goal.returns-clause-weight
returns-clause-weight c =
    let same : c.rounded.result ≡ rounded_weight (c.args.area * (10 ^ 4 * 2 ^ 10)) c.args.rs = c.rounded.ensures.value ∙ rw (c.from.ensures, c.from-2.ensures) refl in
    ap pos same ∙ surface_field_is c.args.rs c.args.area c.requires.rs.above_zero
