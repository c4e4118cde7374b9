use Rattle.std.proofs.Common.{rules, ap, subst, sym, ℤ, ◌-ℤ◌}
use Rattle.tb_math.specs.Rational.{int, ◌-ℚ◌, ◌≤ℚ◌}
use Rattle.tb_terms.specs.declared.Interval.{Interval}
use Rattle.tb_psi.specs.Heat.{least_lines, least_planar, line_heat, most_lines, most_planar, planar_heat}
use Rattle.tb_psi.proofs.Holding.{left_least, left_most, lines_least, lines_most, planar_least, planar_most}
use Rattle.tb_psi.proofs.transmittances.chi.Goals as goal

pub returns-clause-value : goal.returns-clause-value
returns-clause-value c = search rules

pub returns-clause-lower : goal.returns-clause-lower
returns-clause-lower c x u p h k l =
    subst (λ (t : ℤ). int t ≤ℚ x -ℚ planar_heat c.args.areas.now u -ℚ line_heat c.args.lines.now p) (sym (ap (λ (i : Interval). i.lo) (returns-clause-value c)))
    (left_least (c.args.pair.lo -ℤ most_planar c.args.areas.now) (most_lines c.args.lines.now) (x -ℚ planar_heat c.args.areas.now u) (line_heat c.args.lines.now p)
    (left_least c.args.pair.lo (most_planar c.args.areas.now) x (planar_heat c.args.areas.now u) h (planar_most c.args.areas.now u k))
    (lines_most c.args.lines.now p l))

pub returns-clause-upper : goal.returns-clause-upper
returns-clause-upper c x u p h k l =
    subst (λ (t : ℤ). x -ℚ planar_heat c.args.areas.now u -ℚ line_heat c.args.lines.now p ≤ℚ int t) (sym (ap (λ (i : Interval). i.hi) (returns-clause-value c)))
    (left_most (c.args.pair.hi -ℤ least_planar c.args.areas.now) (least_lines c.args.lines.now) (x -ℚ planar_heat c.args.areas.now u) (line_heat c.args.lines.now p)
    (left_most c.args.pair.hi (least_planar c.args.areas.now) x (planar_heat c.args.areas.now u) h (planar_least c.args.areas.now u k))
    (lines_least c.args.lines.now p l))
