use Rattle.std.proofs.Common.{◌≡◌, ◌*◌, ◌^◌, pos, ◌≤ℤ◌}
use Rattle.tb_math.specs.Sums.{total_ℤ}
use Rattle.tb_psi.specs.Heat.{most_heat, planar_term}
use Rattle.tb_psi.proofs.terms.most_planar.Given as goal

abbrev pub invariant-loop-term : goal.invariant-loop-term
invariant-loop-term l = record {
  value : l.heat ≡ total_ℤ l.term-index (λ i. most_heat (planar_term l.terms i));
  not_negative : pos 0 ≤ℤ l.heat;
  at_most : l.heat ≤ℤ pos (l.term-index * 10 ^ 29);
}
