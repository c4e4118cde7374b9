use Rattle.std.proofs.Common.{◌≡◌, ◌∙◌, sym, subst, ap, ℕ, ◌*◌, ◌^◌, lit<, pos, ℤ, ◌*ℤ◌, ◌≤ℤ◌}
use Rattle.std.proofs.Math.Nat.{mul-le-mul}
use Rattle.tb_math.specs.Integers.{pos-nonneg}
use Rattle.tb_math.specs.Rational.{int}
use Rattle.tb_terms.proofs.FieldTerms.{field_cell-quotient, field_cell-bounded}
use Rattle.tb_terms.proofs.Wide.{stored, stored_product}
use Rattle.tb_terms.proofs.field.FieldCellFunctional.numerator.Goals as goal

-- the result without its 128 bits
computed : (c : goal.After-from-3) → stored (stored c.from-2.result *ℤ stored c.from-3.result) ≡ pos (c.args.self.now.lambda * (c.args.self.now.b * c.args.self.now.c)) *ℤ pos c.spread_of.result
computed c = let h = c.requires.within_limits in
    stored_product c.from-2.result c.from-3.result _ _ (125 * 10 ^ 16) (144 * 10 ^ 16)
    (c.from-2.ensures ∙ ap (λ (n : ℕ). pos (c.from.result * n)) c.section.ensures ∙ ap (λ (n : ℕ). pos (n * (c.args.self.now.b * c.args.self.now.c))) c.from.ensures) c.from-3.ensures
    (mul-le-mul h.conductivity.at_most (mul-le-mul h.b.at_most h.c.at_most)) c.spread_of.ensures.size (lit< tt) (lit< tt) (lit< tt)

pub returns-clause-value : goal.returns-clause-value
returns-clause-value c = let x = c.args.self.now in
    ap int (computed c) ∙ (field_cell-quotient x.lambda x.a x.b x.c (pos c.spread_of.result) _ c.requires.within_limits.a.above_zero c.spread_of.ensures.value).value

pub returns-clause-not_negative : goal.returns-clause-not_negative
returns-clause-not_negative c = subst (λ (z : ℤ). pos 0 ≤ℤ z) (sym (computed c)) (pos-nonneg (c.args.self.now.lambda * (c.args.self.now.b * c.args.self.now.c) * c.spread_of.result))

pub returns-clause-bounded : goal.returns-clause-bounded
returns-clause-bounded c = field_cell-bounded c.args.self.now c.requires.within_limits
