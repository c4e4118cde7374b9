use Rattle.std.proofs.Common.{◌≡◌, ◌*◌, ◌^◌, ◌≤◌, pos, ◌≤ℤ◌}
use Rattle.tb_math.specs.Sums.{total_ℕ}
use Rattle.tb_planar.specs.Bounds.{times, total}
use Rattle.tb_planar.specs.Printed.{section_transmittance}
use Rattle.tb_planar.specs.Sections.{area}
use Rattle.tb_planar.proofs.part.mean_transmittance.Given as goal

abbrev pub invariant-loop-section : goal.invariant-loop-section
invariant-loop-section l = record {
  value : l.sum ≡ total l.section (λ s. times (area l.part s) (section_transmittance l.detail l.part s));
  few : total_ℕ l.section (area l.part) ≤ l.section * 10 ^ 6;
  at_least : pos (total_ℕ l.section (area l.part) * 10 ^ 8) ≤ℤ l.sum.low;
  ordered : l.sum.low ≤ℤ l.sum.high;
  at_most : l.sum.high ≤ℤ pos (total_ℕ l.section (area l.part) * (5 * 10 ^ 18));
}
