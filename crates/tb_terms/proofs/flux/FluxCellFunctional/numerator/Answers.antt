use Rattle.std.proofs.Common.{◌≡◌, ◌∙◌, sym, subst, ap, arith, ℕ, ◌*◌, ◌^◌, ◌≤◌, lit<, pos, ℤ, ◌*ℤ◌, ◌≤ℤ◌, unsigned_abs}
use Rattle.std.proofs.lemmas.Int.{ints}
use Rattle.tb_math.specs.Integers.{mul-nonneg, pos-nonneg}
use Rattle.tb_math.specs.Rational.{int}
use Rattle.tb_terms.proofs.FluxTerms.{whole_passage, whole_passage-stored, whole_passage-not_below_zero, whole_passage-at_most, flux_cell-is, flux_cell-bounded}
use Rattle.tb_terms.proofs.Wide.{stored, stored_product}
use Rattle.tb_terms.proofs.flux.FluxCellFunctional.numerator.Goals as goal

size : (z : ℤ) (most : ℕ) → pos 0 ≤ℤ z → z ≤ℤ pos most → unsigned_abs z ≤ most
size z most h k = omega (arith, ints)

scaled : (a : ℕ) → a ≤ 500000 → 100000 * a ≤ 5 * 10 ^ 10
scaled a h = omega arith

-- the result without its 128 bits
computed : (c : goal.After-passage_of) → stored (stored c.from-2.result *ℤ stored c.passage_of.result) ≡ pos (100000 * c.args.self.now.a) *ℤ whole_passage c.args.self.now.low c.args.self.now.high
computed c = let h = c.requires.within_limits in let x = c.args.self.now in
    stored_product c.from-2.result c.passage_of.result _ _ (5 * 10 ^ 10) (3 * 10 ^ 24)
    (c.from-2.ensures ∙ ap (λ (n : ℕ). pos (100000 * n)) c.from.ensures) (c.passage_of.ensures.value ∙ whole_passage-stored x.low x.high h.low h.high)
    (scaled x.a h.a.at_most) (size _ _ (whole_passage-not_below_zero x.low x.high) (whole_passage-at_most x.low x.high h.low h.high)) (lit< tt) (lit< tt) (lit< tt)

pub returns-clause-value : goal.returns-clause-value
returns-clause-value c = ap int (computed c) ∙ (flux_cell-is c.args.self.now c.requires.within_limits).value

pub returns-clause-not_negative : goal.returns-clause-not_negative
returns-clause-not_negative c = let x = c.args.self.now in
    subst (λ (z : ℤ). pos 0 ≤ℤ z) (sym (computed c)) (mul-nonneg (pos (100000 * x.a)) (whole_passage x.low x.high) (pos-nonneg (100000 * x.a)) (whole_passage-not_below_zero x.low x.high))

pub returns-clause-bounded : goal.returns-clause-bounded
returns-clause-bounded c = flux_cell-bounded c.args.self.now c.requires.within_limits
