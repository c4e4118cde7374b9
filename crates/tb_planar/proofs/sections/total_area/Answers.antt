use Rattle.std.proofs.Common.{ℕ, List, length, ap, arith}
use Rattle.tb_planar.specs.Sections.{area}
use Rattle.tb_planar.proofs.Steps.{area_at, area_in_range, total_next}
use Rattle.tb_planar.proofs.sections.total_area.Goals as goal

pub loop-area-preserved : goal.loop-area-preserved
loop-area-preserved c =
    let range = area_in_range c.args.part.now c.items-area-items.result.now c.loop-area.area-index c.items-area-items.ensures c.loop-area-test.true c.requires in
    record {
      value = total_next c.loop-area.area-index (area c.args.part.now) c.loop-area.total _ c.loop-area.invariant.value
          (area_at c.args.part.now c.items-area-items.result.now c.loop-area.area-index c.items-area-items.ensures);
      at_least = omega (arith, range.low);
      at_most = omega (arith, range.high);
    }

pub overflow_add-total : goal.overflow_add-total
overflow_add-total c =
    let range = area_in_range c.args.part.now c.items-area-items.result.now c.loop-area.area-index c.items-area-items.ensures c.loop-area-test.true c.requires in
    let few = c.requires.few in omega (arith, range.high, ap (λ (t : List ℕ). length t) c.items-area-items.ensures)
