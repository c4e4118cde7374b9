use Rattle.std.proofs.Common.{◌∙◌, ◌^◌, ap, arith, pos, ◌<ℤ◌}
use Rattle.std.proofs.lemmas.Int.{ints}
use Rattle.tb_planar.specs.declared.bounds.Bounds.{Bounds}
use Rattle.tb_planar.specs.Bounds.{IsTransmittance, over}
use Rattle.tb_planar.specs.Printed.{mean_transmittance, upper_limit}
use Rattle.tb_planar.proofs.Conducting.{are_positive, conducts}
use Rattle.tb_planar.proofs.Parts.{upper-encloses}
use Rattle.tb_planar.proofs.part.upper_limit.Goals as goal

pub returns-clause-value : goal.returns-clause-value
unfolding upper_limit
returns-clause-value c = c.resistance.ensures.value ∙ ap (over (pos (10 ^ 31))) c.mean_transmittance.ensures.value

pub returns-clause-encloses : goal.returns-clause-encloses
returns-clause-encloses c =
    let d = c.args.detail.now in
    let p = c.args.part.now in
    let mean = c.mean_transmittance.ensures in
    let low : pos 0 <ℤ (mean_transmittance d p).low = rw (← mean.value) (above c.mean_transmittance.result mean.size) in
    rw (returns-clause-value c) (upper-encloses d p (conducts d p c.requires) (are_positive d p c.requires) low)
  where
    above : (b : Bounds) → IsTransmittance b → pos 0 <ℤ b.low
    above b h = omega (arith, ints)
