use Rattle.std.proofs.Common.{sym, subst, ℤ}
use Rattle.std.proofs.lemmas.Int.{to_z-of_z}
use Rattle.std.specs.Int.{w128}
use Rattle.tb_math.specs.Ceiling.{RoundsUp}
use Rattle.tb_numbers.proofs.Divisions.{above_zero_up, not_above_zero_up}
use Rattle.tb_numbers.proofs.QuotientLaws.{ceiling_brackets}
use Rattle.tb_numbers.proofs.rounding.UpRounding.div.Goals as goal

pub returns-then-n-gt0-clause-value : goal.returns-then-n-gt0-clause-value
returns-then-n-gt0-clause-value c = simp (to_z-of_z w128 c.args.n c.ranges.n, to_z-of_z w128 c.args.d c.ranges.d)
    (above_zero_up c.args.n c.args.d c.ranges.n c.requires (simp (to_z-of_z w128 c.args.n c.ranges.n) at c.if-n-gt0.true))

pub returns-then-n-gt0-clause-bracket : goal.returns-then-n-gt0-clause-bracket
returns-then-n-gt0-clause-bracket c = subst (λ (q : ℤ). RoundsUp c.args.n c.args.d q) (sym (returns-then-n-gt0-clause-value c)) (ceiling_brackets c.args.n c.args.d c.requires)

pub returns-else-n-gt0-clause-value : goal.returns-else-n-gt0-clause-value
returns-else-n-gt0-clause-value c = simp (to_z-of_z w128 c.args.n c.ranges.n, to_z-of_z w128 c.args.d c.ranges.d)
    (not_above_zero_up c.args.n c.args.d c.ranges.n c.requires (simp (to_z-of_z w128 c.args.n c.ranges.n) at c.if-n-gt0.false))

pub returns-else-n-gt0-clause-bracket : goal.returns-else-n-gt0-clause-bracket
returns-else-n-gt0-clause-bracket c = subst (λ (q : ℤ). RoundsUp c.args.n c.args.d q) (sym (returns-else-n-gt0-clause-value c)) (ceiling_brackets c.args.n c.args.d c.requires)
