use Rattle.std.proofs.Common.{rules, ap, subst, sym, ℤ}
use Rattle.tb_math.specs.Rational.{int, ◌-ℚ◌, ◌≤ℚ◌}
use Rattle.tb_terms.specs.declared.Interval.{Interval}
use Rattle.tb_psi.specs.Heat.{least_planar, most_planar, planar_heat}
use Rattle.tb_psi.proofs.Holding.{left_least, left_most, planar_least, planar_most}
use Rattle.tb_psi.proofs.transmittances.psi.Goals as goal

pub returns-clause-value : goal.returns-clause-value
returns-clause-value c = search rules

pub returns-clause-lower : goal.returns-clause-lower
returns-clause-lower c x u h k = subst (λ (t : ℤ). int t ≤ℚ x -ℚ planar_heat c.args.terms.now u) (sym (ap (λ (i : Interval). i.lo) (returns-clause-value c)))
    (left_least c.args.pair.lo (most_planar c.args.terms.now) x (planar_heat c.args.terms.now u) h (planar_most c.args.terms.now u k))

pub returns-clause-upper : goal.returns-clause-upper
returns-clause-upper c x u h k = subst (λ (t : ℤ). x -ℚ planar_heat c.args.terms.now u ≤ℚ int t) (sym (ap (λ (i : Interval). i.hi) (returns-clause-value c)))
    (left_most c.args.pair.hi (least_planar c.args.terms.now) x (planar_heat c.args.terms.now u) h (planar_least c.args.terms.now u k))
