use Rattle.std.proofs.Common.{◌≡◌, ◌+◌, ◌*◌, ◌^◌, pos, ◌≤ℤ◌}
use Rattle.tb_planar.specs.Bounds.{plus, total}
use Rattle.tb_planar.specs.Printed.{layer_in_section, surfaces}
use Rattle.tb_planar.specs.Sections.{layer}
use Rattle.tb_planar.proofs.part.section_resistance.Given as goal

abbrev pub invariant-loop-layer : goal.invariant-loop-layer
invariant-loop-layer l = record {
  value : l.sum ≡ plus (surfaces l.part) (total l.layer-index (λ j. layer_in_section l.detail (layer l.part j) l.section));
  at_least : pos (2 * 10 ^ 12) ≤ℤ l.sum.low;
  ordered : l.sum.low ≤ℤ l.sum.high;
  at_most : l.sum.high ≤ℤ pos (2 * 10 ^ 17 + l.layer-index * (5 * 10 ^ 21));
}
