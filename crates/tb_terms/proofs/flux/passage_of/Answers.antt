use Rattle.std.proofs.Common.{◌≡◌, ◌∙◌, sym, subst, ap, pos, ◌≤ℤ◌, ℤ, ◌+ℤ◌, ◌*◌, ◌^◌}
use Rattle.tb_terms.proofs.FluxTerms.{whole_passage-stored, whole_passage-not_below_zero, whole_passage-at_most}
use Rattle.tb_terms.proofs.Wide.{stored_sum}
use Rattle.tb_terms.proofs.flux.passage_of.Goals as goal

joined : {x y z p q r : ℤ} → x ≡ p → y ≡ q → z ≡ r → x +ℤ y +ℤ z ≡ p +ℤ q +ℤ r
joined {x} {y} {z} {p} {q} {r} e f g = ap (λ (t : ℤ). t +ℤ y +ℤ z) e ∙ ap (λ (t : ℤ). p +ℤ t +ℤ z) f ∙ ap (λ (t : ℤ). p +ℤ q +ℤ t) g

pub returns-clause-value : goal.returns-clause-value
returns-clause-value c = stored_sum c.product.result c.product-2.result c.product-3.result c.product.ensures.size c.product-2.ensures.size c.product-3.ensures.size
    ∙ joined c.product.ensures.value c.product-2.ensures.value c.product-3.ensures.value
    ∙ whole_passage-stored c.args.low c.args.high c.requires.low_size c.requires.high_size

pub returns-clause-not_negative : goal.returns-clause-not_negative
returns-clause-not_negative c = subst (λ (z : ℤ). pos 0 ≤ℤ z) (sym (returns-clause-value c)) (whole_passage-not_below_zero c.args.low c.args.high)

pub returns-clause-size : goal.returns-clause-size
returns-clause-size c = subst (λ (z : ℤ). z ≤ℤ pos (3 * 10 ^ 24)) (sym (returns-clause-value c)) (whole_passage-at_most c.args.low c.args.high c.requires.low_size c.requires.high_size)
