use Rattle.std.proofs.Common.{◌≡◌, ◌*◌, ◌^◌, ◌≤◌, unsigned_abs}
use Rattle.tb_math.specs.Sums.{total_ℤ}
use Rattle.tb_psi.specs.Heat.{most_line, line_term}
use Rattle.tb_psi.proofs.terms.most_lines.Given as goal

abbrev pub invariant-loop-term : goal.invariant-loop-term
invariant-loop-term l = record {
  value : l.heat ≡ total_ℤ l.term-index (λ i. most_line (line_term l.terms i));
  size : unsigned_abs l.heat ≤ l.term-index * 10 ^ 34;
}
