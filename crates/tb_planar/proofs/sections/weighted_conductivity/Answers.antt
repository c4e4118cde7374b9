use Rattle.std.proofs.Common.{◌≡◌, ◌*◌, refl, arith}
use Rattle.tb_math.specs.Sums.{total_ℕ}
use Rattle.tb_planar.specs.Sections.{area, conductivity}
use Rattle.tb_planar.proofs.Steps.{area_at, total_next}
use Rattle.tb_planar.proofs.sections.weighted_conductivity.Goals as goal

pub loop-section-preserved : goal.loop-section-preserved
loop-section-preserved c =
    let at = area_at c.args.part.now c.items-area-items.result.now c.loop-section.section c.items-area-items.ensures in
    let term : c.weighted-total.result ≡ area c.args.part.now c.loop-section.section * conductivity c.args.detail.now c.args.layer.now c.loop-section.section = cc in
    let areas = total_next c.loop-section.section (area c.args.part.now) (total_ℕ c.loop-section.section (area c.args.part.now)) _ refl at in
    record {
      value = total_next c.loop-section.section (λ s. area c.args.part.now s * conductivity c.args.detail.now c.args.layer.now s) c.loop-section.total _ c.loop-section.invariant.value term;
      at_least = omega (arith, areas);
      at_most = omega arith;
    }
