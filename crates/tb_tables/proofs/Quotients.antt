-- A weight is the quotient of whole numbers.
use mathlib.Core.Path.{◌≡◌, refl, sym, ap, ◌∙◌}
use mathlib.Core.List.{[], ◌∷◌}
use Prim.Native.Nat.{ℕ, zero, suc, ◌+◌, ◌*◌, ◌/◌, ◌%◌, ◌<◌, ◌^◌}
use native.Mathlib.Omega.{arith}
use Rattle.std.proofs.lemmas.Int.{ints}
use Rattle.std.proofs.lemmas.Nat.{div-add-mod', mod_below}
use Rattle.tb_math.specs.Integers.{neg-mul}
use Rattle.tb_math.proofs.RationalLaws.{int-mul, int-neg, one_over_cancel}
use lib.IntN.{pos, neg_ℤ}
use Rattle.tb_math.specs.Rational.{ℚ, int, one_over, ◌*ℚ◌, neg_ℚ}
use Rattle.tb_math.specs.Division.{◌/ℚ◌, inverse}
use Rattle.tb_math.specs.Ceiling.{RoundsUp, floor}
use Rattle.tb_math.proofs.CeilingLaws.{quotient-ceiling}
use Rattle.tb_math.proofs.DivisionLaws.{inverse-int}
use Rattle.tb_math.proofs.ReadRationals.{by_reading, reading}
use Rattle.tb_weighted.specs.Weighted as weighted
use Rattle.tb_tables.specs.Weights.{at_least_one, rounded_weight}

turned : (q d : ℚ) → neg_ℚ q *ℚ d ≡ neg_ℚ (q *ℚ d)
turned q d = by_reading {atoms = q ∷ d ∷ []} (search reading) (search reading) refl

twice_turned : (n : ℕ) → neg_ℤ (neg_ℤ (pos n)) ≡ pos n
twice_turned n = omega (arith, ints)

rounds : (n d c r : ℕ) → c * d + r ≡ n → r < d → RoundsUp (neg_ℤ (pos n)) (pos d) (neg_ℤ (pos c))
rounds n d c r e l = record {
  at_least = let p = neg-mul (pos c) (pos d) in omega (arith, ints);
  near = let p = neg-mul (pos c) (pos d) in omega (arith, ints);
}

floor_quotient : (q : ℚ) (n d : ℕ) → 0 < d → q *ℚ int (pos d) ≡ int (pos n) → floor q ≡ pos (n / d)
unfolding floor
floor_quotient q n d h e = ap neg_ℤ (sym (quotient-ceiling (neg_ℚ q) (neg_ℤ (pos n)) d (neg_ℤ (pos (n / d))) h (turned q (int (pos d)) ∙ ap neg_ℚ e ∙ sym (int-neg (pos n))) (rounds n d (n / d) (n % d) (div-add-mod' n d) (mod_below n d h)))) ∙ twice_turned (n / d)

least_one : (n : ℕ) → weighted.at_least_one (pos n) ≡ pos (at_least_one n)
least_one zero = refl
least_one (suc n) = refl

weight_is : (q : ℚ) (n d : ℕ) → 0 < d → q *ℚ int (pos d) ≡ int (pos n) → pos (rounded_weight n d) ≡ weighted.whole_weight q
weight_is q n d h e = sym (ap weighted.at_least_one (floor_quotient q n d h e) ∙ least_one (n / d))

-- a quotient times its divisor
over : (p o d : ℚ) → d *ℚ o ≡ int (pos 1) → (p *ℚ o) *ℚ d ≡ p
over p o d e = by_reading {atoms = p ∷ o ∷ d ∷ []} {b = p *ℚ (d *ℚ o)} (search reading) (search reading) refl ∙ ap (λ (z : ℚ). p *ℚ z) e ∙ by_reading {atoms = p ∷ []} {a = p *ℚ int (pos 1)} (search reading) (search reading) refl

divided : (p : ℚ) (d : ℕ) → 0 < d → (p /ℚ int (pos d)) *ℚ int (pos d) ≡ p
divided p d h = over p (inverse (int (pos d))) (int (pos d)) (ap (λ (z : ℚ). int (pos d) *ℚ z) (inverse-int d) ∙ one_over_cancel d h)

pub two : (a b : ℕ) → int (pos a) *ℚ int (pos b) ≡ int (pos (a * b))
two a b = sym (int-mul (pos a) (pos b))

three : (a b c : ℕ) → int (pos a) *ℚ int (pos b) *ℚ int (pos c) ≡ int (pos (a * b * c))
three a b c = ap (λ (z : ℚ). z *ℚ int (pos c)) (two a b) ∙ two (a * b) c

pub field_is : (lambda width area : ℕ) → 0 < width → pos (rounded_weight (lambda * area * 2 ^ 10) width) ≡ weighted.field_weight (int (pos lambda)) (int (pos width)) (int (pos area))
field_is lambda width area h = weight_is _ (lambda * area * 2 ^ 10) width h (divided (int (pos lambda) *ℚ int (pos area) *ℚ int (pos (2 ^ 10))) width h ∙ three lambda area (2 ^ 10))

pub surface_field_is : (rs area : ℕ) → 0 < rs → pos (rounded_weight (area * (10 ^ 4 * 2 ^ 10)) rs) ≡ weighted.surface_field_weight rs (int (pos area))
surface_field_is rs area h = weight_is _ (area * (10 ^ 4 * 2 ^ 10)) rs h (over (int (pos area) *ℚ int (pos (10 ^ 4 * 2 ^ 10))) (one_over rs) (int (pos rs)) (one_over_cancel rs h) ∙ two area (10 ^ 4 * 2 ^ 10))

pub flux_is : (lambda width area : ℕ) → 0 < area * lambda → pos (rounded_weight (width * 2 ^ 44) (area * lambda)) ≡ weighted.flux_weight (int (pos lambda)) (int (pos width)) (int (pos area))
flux_is lambda width area h = weight_is _ (width * 2 ^ 44) (area * lambda) h
    (ap (λ (z : ℚ). (int (pos width) *ℚ int (pos (2 ^ 44)) /ℚ z) *ℚ int (pos (area * lambda))) (two area lambda) ∙ divided (int (pos width) *ℚ int (pos (2 ^ 44))) (area * lambda) h ∙ two width (2 ^ 44))

pub surface_flux_is : (rs area : ℕ) → 0 < area * 10 ^ 4 → pos (rounded_weight (3 * rs * 2 ^ 44) (area * 10 ^ 4)) ≡ weighted.surface_flux_weight rs (int (pos area))
surface_flux_is rs area h = weight_is _ (3 * rs * 2 ^ 44) (area * 10 ^ 4) h
    (ap (λ (z : ℚ). (int (pos (3 * rs * 2 ^ 44)) /ℚ z) *ℚ int (pos (area * 10 ^ 4))) (two area (10 ^ 4)) ∙ divided (int (pos (3 * rs * 2 ^ 44))) (area * 10 ^ 4) h)

pub positive_product : (a b : ℕ) → 0 < a → 0 < b → 0 < a * b
positive_product zero b h k = absurd (omega arith)
positive_product (suc a) zero h k = absurd (omega arith)
positive_product (suc a) (suc b) h k = omega arith
