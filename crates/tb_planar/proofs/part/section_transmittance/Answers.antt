use Rattle.std.proofs.Common.{◌∙◌, ◌^◌, ap, pos}
use Rattle.tb_planar.specs.Bounds.{over}
use Rattle.tb_planar.specs.Printed.{section_transmittance}
use Rattle.tb_planar.proofs.part.section_transmittance.Goals as goal

pub returns-clause-value : goal.returns-clause-value
unfolding section_transmittance
returns-clause-value c = c.transmittance.ensures.value ∙ ap (over (pos (10 ^ 31))) c.section_resistance.ensures.value
