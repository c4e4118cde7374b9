use Rattle.std.proofs.Common.{◌≡◌, ◌*◌, ◌^◌, ◌≤◌}
use Rattle.tb_math.specs.Sums.{total_ℕ}
use Rattle.tb_planar.specs.Sections.{area, conductivity}
use Rattle.tb_planar.proofs.sections.weighted_conductivity.Given as goal

abbrev pub invariant-loop-section : goal.invariant-loop-section
invariant-loop-section l = record {
  value : l.total ≡ total_ℕ l.section (λ s. area l.part s * conductivity l.detail l.layer s);
  at_least : total_ℕ l.section (area l.part) ≤ l.total;
  at_most : l.total ≤ l.section * (5 * 10 ^ 12);
}
