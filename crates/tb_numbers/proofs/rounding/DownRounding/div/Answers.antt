use Rattle.std.proofs.Common.{◌≡◌, ◌∙◌, sym, subst, ℤ, to_z, of_z}
use Rattle.std.proofs.lemmas.Int.{to_z-of_z}
use Rattle.std.specs.Int.{w128}
use Rattle.tb_math.specs.Ceiling.{RoundsDown}
use Rattle.tb_numbers.proofs.QuotientLaws.{floor_brackets}
use Rattle.tb_numbers.specs.Quotients.{floor}
use Rattle.tb_numbers.proofs.rounding.DownRounding.div.Goals as goal

value : (c : goal.After-div_euclid) → to_z w128 (of_z w128 c.div_euclid.result) ≡ floor c.args.n c.args.d
unfolding floor
value c = to_z-of_z w128 c.div_euclid.result (record { sfits = c.div_euclid.type_inv })
    ∙ simp (to_z-of_z w128 c.args.n c.ranges.n, to_z-of_z w128 c.args.d c.ranges.d) at c.div_euclid.ensures

pub returns-clause-value : goal.returns-clause-value
returns-clause-value c = value c

pub returns-clause-bracket : goal.returns-clause-bracket
returns-clause-bracket c = subst (λ (q : ℤ). RoundsDown c.args.n c.args.d q) (sym (value c)) (floor_brackets c.args.n c.args.d c.requires)
