use Rattle.std.proofs.Common.{◌≡◌, ◌∙◌, sym, subst, ap, ◌*◌, ◌^◌, lit<, pos, ℤ, ◌*ℤ◌, ◌≤ℤ◌}
use Rattle.std.proofs.Math.Nat.{mul-le-mul}
use Rattle.tb_math.specs.Integers.{pos-nonneg}
use Rattle.tb_math.specs.Rational.{int}
use Rattle.tb_terms.proofs.FieldTerms.{field_face-quotient, field_face-bounded}
use Rattle.tb_terms.proofs.Wide.{stored, stored_product}
use Rattle.tb_terms.proofs.field.FieldFaceFunctional.numerator.Goals as goal

-- the result without its 128 bits
computed : (c : goal.After-from-2) → stored (stored c.from.result *ℤ stored c.from-2.result) ≡ pos (c.args.self.now.b * c.args.self.now.c) *ℤ pos c.spread_of.result
computed c = let h = c.requires.within_limits in
    stored_product c.from.result c.from-2.result _ _ (25 * 10 ^ 10) (144 * 10 ^ 16)
    (c.from.ensures ∙ ap pos c.section.ensures) c.from-2.ensures
    (mul-le-mul h.b.at_most h.c.at_most) c.spread_of.ensures.size (lit< tt) (lit< tt) (lit< tt)

pub returns-clause-value : goal.returns-clause-value
returns-clause-value c = let x = c.args.self.now in
    ap int (computed c) ∙ (field_face-quotient x.rs x.b x.c (pos c.spread_of.result) _ c.requires.within_limits.resistance.above_zero c.spread_of.ensures.value).value

pub returns-clause-not_negative : goal.returns-clause-not_negative
returns-clause-not_negative c = subst (λ (z : ℤ). pos 0 ≤ℤ z) (sym (computed c)) (pos-nonneg (c.args.self.now.b * c.args.self.now.c * c.spread_of.result))

pub returns-clause-bounded : goal.returns-clause-bounded
returns-clause-bounded c = field_face-bounded c.args.self.now c.requires.within_limits
