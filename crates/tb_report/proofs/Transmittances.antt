-- Ψ and χ made of a sound pair are sound.
use Rattle.std.proofs.Common.{ℕ, List, ◌-ℤ◌}
use Rattle.tb_math.specs.Rational.{ℚ, ◌-ℚ◌}
use Rattle.tb_detail.specs.declared.LineTerm.{LineTerm}
use Rattle.tb_model.specs.Refinement.{Scene}
use Rattle.tb_terms.specs.declared.Interval.{Interval}
use Rattle.tb_conduct.specs.Coupling.{IsSoundPair}
use Rattle.tb_psi.specs.Heat.{HoldLines, HoldPlanar, PlanarTerm, least_lines, least_planar, line_heat, most_lines, most_planar, planar_heat}
use Rattle.tb_psi.specs.Transmittances.{chi_interval, psi_interval}
use Rattle.tb_psi.proofs.Holding.{left_least, left_most, lines_least, lines_most, planar_least, planar_most}
use Rattle.tb_report.specs.Sound.{IsSoundOf}

pub psi_sound : (s : Scene) (i j : ℕ) (pair : Interval) (terms : List PlanarTerm) (u : ℕ → ℚ) → IsSoundPair s i j pair.lo pair.hi → HoldPlanar terms u →
    IsSoundOf s i j (λ x. x -ℚ planar_heat terms u) (psi_interval pair terms).lo (psi_interval pair terms).hi
psi_sound s i j pair terms u sound holds = record {
  lower = λ r r' r'' T T' q a b c d. left_least pair.lo (most_planar terms) _ (planar_heat terms u) (sound.lower r r' r'' T T' q a b c d) (planar_most terms u holds);
  upper = λ r r' r'' q q' T a b c d e. left_most pair.hi (least_planar terms) _ (planar_heat terms u) (sound.upper r r' r'' q q' T a b c d e) (planar_least terms u holds);
}

pub chi_sound : (s : Scene) (i j : ℕ) (pair : Interval) (areas : List PlanarTerm) (lines : List LineTerm) (u p : ℕ → ℚ) → IsSoundPair s i j pair.lo pair.hi → HoldPlanar areas u → HoldLines lines p →
    IsSoundOf s i j (λ x. x -ℚ planar_heat areas u -ℚ line_heat lines p) (chi_interval pair areas lines).lo (chi_interval pair areas lines).hi
chi_sound s i j pair areas lines u p sound holds hold_lines = let first = psi_sound s i j pair areas u sound holds in record {
  lower = λ r r' r'' T T' q a b c d. left_least (pair.lo -ℤ most_planar areas) (most_lines lines) _ (line_heat lines p) (first.lower r r' r'' T T' q a b c d) (lines_most lines p hold_lines);
  upper = λ r r' r'' q q' T a b c d e. left_most (pair.hi -ℤ least_planar areas) (least_lines lines) _ (line_heat lines p) (first.upper r r' r'' q q' T a b c d e) (lines_least lines p hold_lines);
}
