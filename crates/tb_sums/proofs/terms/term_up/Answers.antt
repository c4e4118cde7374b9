use Rattle.std.proofs.Common.{◌≡◌, ◌∙◌, ap, sym, ℕ, ℤ, pos}
use Rattle.std.proofs.lemmas.Int.{to_z-of_z}
use Rattle.std.specs.Int.{w128, div_ceil}
use lib.IntN.{nat_abs}
use Rattle.tb_math.specs.Rational.{int, ◌*ℚ◌}
use Rattle.tb_math.specs.Ceiling.{ceiling}
use Rattle.tb_sums.proofs.RoundedTerms.{at_most, rounded_term}
use Rattle.tb_sums.proofs.terms.term_up.Goals as goal

pub returns-clause-value : goal.returns-clause-value
returns-clause-value g c =
    let n = c.numerator.result in
    let t = g.F.Functional.term c.args.term.now in
    let d = c.args.by.divisor in
    let e : int n ≡ int (pos d) *ℚ t = c.numerator.ensures.value ∙ ap (λ (x : ℕ). int (pos x) *ℚ t) (sym c.requires.divisor) in
    ap pos c.quotient_up.ensures
    ∙ ap (λ (z : ℤ). pos (div_ceil (nat_abs z) d)) (to_z-of_z w128 n (record { sfits = c.numerator.type_inv }))
    ∙ rounded_term t n d c.numerator.ensures.not_negative c.args.by.positive e

pub returns-clause-most : goal.returns-clause-most
returns-clause-most g c =
    let n = c.numerator.result in
    let t = g.F.Functional.term c.args.term.now in
    let d = c.args.by.divisor in
    let e : int n ≡ int (pos d) *ℚ t = c.numerator.ensures.value ∙ ap (λ (x : ℕ). int (pos x) *ℚ t) (sym c.requires.divisor) in
    let is : pos c.quotient_up.result ≡ ceiling t = ap pos c.quotient_up.ensures
    ∙ ap (λ (z : ℤ). pos (div_ceil (nat_abs z) d)) (to_z-of_z w128 n (record { sfits = c.numerator.type_inv }))
    ∙ rounded_term t n d c.numerator.ensures.not_negative c.args.by.positive e in
    at_most c.quotient_up.result g.F.Functional.greatest t is c.numerator.ensures.bounded
