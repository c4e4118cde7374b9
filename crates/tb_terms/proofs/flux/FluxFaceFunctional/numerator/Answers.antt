use Rattle.std.proofs.Common.{◌≡◌, ◌∙◌, sym, subst, ap, arith, ℕ, ◌*◌, ◌^◌, ◌≤◌, lit<, pos, ℤ, ◌*ℤ◌, ◌≤ℤ◌, unsigned_abs}
use Rattle.tb_math.specs.Integers.{mul-nonneg, pos-nonneg, square-nonneg}
use Rattle.tb_math.specs.Rational.{int}
use Rattle.tb_terms.proofs.FluxTerms.{flow-stored, flux_face-is, flux_face-bounded}
use Rattle.tb_terms.proofs.Wide.{stored, stored_product}
use Rattle.tb_terms.proofs.flux.FluxFaceFunctional.numerator.Goals as goal

scaled : (rs : ℕ) → rs ≤ 100000 → 10 * rs ≤ 10 ^ 6
scaled rs h = omega arith

-- the result without its 128 bits
computed : (c : goal.After-product) → stored (stored c.from-2.result *ℤ stored c.product.result) ≡ pos (10 * c.args.self.now.rs) *ℤ (c.args.self.now.flow *ℤ c.args.self.now.flow)
computed c = let h = c.requires.within_limits in let x = c.args.self.now in
    let square : c.product.result ≡ x.flow *ℤ x.flow = c.product.ensures.value ∙ ap (λ (z : ℤ). z *ℤ z) (flow-stored x.flow h.flow) in
    stored_product c.from-2.result c.product.result _ _ (10 ^ 6) (10 ^ 24)
    (c.from-2.ensures ∙ ap (λ (n : ℕ). pos (10 * n)) c.from.ensures) square
    (scaled x.rs h.resistance.at_most) (subst (λ (z : ℤ). unsigned_abs z ≤ 10 ^ 24) square c.product.ensures.size) (lit< tt) (lit< tt) (lit< tt)

pub returns-clause-value : goal.returns-clause-value
returns-clause-value c = ap int (computed c) ∙ (flux_face-is c.args.self.now c.requires.within_limits).value

pub returns-clause-not_negative : goal.returns-clause-not_negative
returns-clause-not_negative c = let x = c.args.self.now in
    subst (λ (z : ℤ). pos 0 ≤ℤ z) (sym (computed c)) (mul-nonneg (pos (10 * x.rs)) (x.flow *ℤ x.flow) (pos-nonneg (10 * x.rs)) (square-nonneg x.flow))

pub returns-clause-bounded : goal.returns-clause-bounded
returns-clause-bounded c = flux_face-bounded c.args.self.now c.requires.within_limits
