use Rattle.std.proofs.Common.{◌≡◌, ◌∙◌, refl, ap, ◌*◌, ◌^◌}
use lib.IntN.{pos}
use Rattle.tb_tables.specs.Weights.{rounded_weight}
use Rattle.tb_tables.proofs.Quotients.{field_is}
use Rattle.tb_tables.proofs.weights.field.Goals as goal

pub returns-clause-weight : goal.returns-clause-weight
returns-clause-weight c =
    let same : c.rounded.result ≡ rounded_weight (c.args.lambda * c.args.area * 2 ^ 10) c.args.width = c.rounded.ensures.value ∙ rw (c.from.ensures, c.from-2.ensures, c.from-3.ensures) refl in
    ap pos same ∙ field_is c.args.lambda c.args.width c.args.area c.requires.width.above_zero
