use Rattle.std.proofs.Common.{◌≡◌, ◌*◌, ◌^◌, ◌≤◌}
use Rattle.tb_math.specs.Sums.{total_ℕ}
use Rattle.tb_planar.specs.Sections.{area}
use Rattle.tb_planar.proofs.sections.total_area.Given as goal

abbrev pub invariant-loop-area : goal.invariant-loop-area
invariant-loop-area l = record {
  value : l.total ≡ total_ℕ l.area-index (area l.part);
  at_least : l.area-index ≤ l.total;
  at_most : l.total ≤ l.area-index * 10 ^ 6;
}
