-- The terms of a flux as quotients, and how large they are.
use mathlib.Core.Path.{◌≡◌, refl, sym, ap, ◌∙◌}
use mathlib.Core.List.{[], ◌∷◌}
use Prim.Native.Nat.{ℕ, ◌*◌, ◌^◌, ◌<◌, ◌≤◌}
use native.Mathlib.Omega.{arith}
use Rattle.std.proofs.Common.{to_z, of_z, w64}
use Rattle.std.proofs.lemmas.Int.{ints, to_z-of_z}
use lib.IntN.{ℤ, pos, negsuc, ◌+ℤ◌, ◌*ℤ◌}
use lib.Signed.{◌≤ℤ◌}
use Rattle.tb_math.specs.Integers.{square-nonneg, mul-nonneg, pos-nonneg}
use Rattle.tb_math.specs.Fraction.{mul_positive}
use Rattle.tb_math.specs.Rational.{ℚ, int, one_over, ◌*ℚ◌, neg_ℚ, ◌≤ℚ◌}
use Rattle.tb_math.specs.Division.{inverse}
use Rattle.tb_math.proofs.RationalLaws.{one_over_cancel}
use Rattle.tb_math.proofs.DivisionLaws.{inverse-int}
use Rattle.tb_math.proofs.ReadIntegers as I
use Rattle.tb_math.proofs.ReadRationals.{by_reading, by_given, reading, none, given}
use Rattle.tb_model.specs.Energy.{passage, cell_loss, surface_loss}
use Rattle.tb_terms.specs.declared.flux.FluxCell.{FluxCell}
use Rattle.tb_terms.specs.declared.flux.FluxFace.{FluxFace}
use Rattle.tb_terms.specs.Limits.{IsFlow}
use Rattle.tb_terms.specs.Terms.{area_of, FitsFluxCell, FitsFluxFace, flux_cell_term, flux_face_term}
use Rattle.tb_terms.proofs.Quotients.{IsQuotient, quotient-not_below_zero, quotient-at_most, scaled-at_most}
use Rattle.tb_terms.proofs.Spread.{simpson, simpson-not_below_zero, simpson-at_most, square-at_most}

-- The passage of two flows --

abbrev pub whole_passage : ℤ → ℤ → ℤ
whole_passage low high = low *ℤ low +ℤ low *ℤ high +ℤ high *ℤ high

pub whole_passage-is : (low high : ℤ) → int (whole_passage low high) ≡ passage (int low) (int high)
unfolding passage
whole_passage-is low high = by_reading {atoms = int low ∷ int high ∷ []} (search reading depth 20) (search reading depth 20) refl

-- Simpson's rule gives twice the passage
twice : (low high : ℤ) → pos 2 *ℤ whole_passage low high ≡ simpson low high
twice low high = I.by_reading {atoms = low ∷ high ∷ []} (search I.reading depth 20) (search I.reading depth 20) refl

pub whole_passage-not_below_zero : (low high : ℤ) → pos 0 ≤ℤ whole_passage low high
whole_passage-not_below_zero low high = half (whole_passage low high) (simpson low high) (twice low high) (simpson-not_below_zero low high)
  where
    half : (x y : ℤ) → pos 2 *ℤ x ≡ y → pos 0 ≤ℤ y → pos 0 ≤ℤ x
    half x y e h = omega (arith, ints)

pub whole_passage-at_most : (low high : ℤ) → IsFlow low → IsFlow high → whole_passage low high ≤ℤ pos (3 * 10 ^ 24)
whole_passage-at_most low high h k = half (whole_passage low high) (simpson low high) (twice low high) (simpson-at_most low high (10 ^ 12) h.at_most k.at_most)
  where
    half : (x y : ℤ) → pos 2 *ℤ x ≡ y → y ≤ℤ pos (6 * 10 ^ 24) → x ≤ℤ pos (3 * 10 ^ 24)
    half x y e l = omega (arith, ints)

-- a flow within the limits, in 64 bits
pub flow-stored : (z : ℤ) → IsFlow z → to_z w64 (of_z w64 z) ≡ z
flow-stored (pos n) h = to_z-of_z w64 (pos n) (record { sfits = omega (arith, h.at_most) })
flow-stored (negsuc n) h = to_z-of_z w64 (negsuc n) (record { sfits = omega (arith, h.at_most) })

pub whole_passage-stored : (low high : ℤ) → IsFlow low → IsFlow high → whole_passage (to_z w64 (of_z w64 low)) (to_z w64 (of_z w64 high)) ≡ whole_passage low high
whole_passage-stored low high h k = ap (λ (z : ℤ). whole_passage z (to_z w64 (of_z w64 high))) (flow-stored low h) ∙ ap (whole_passage low) (flow-stored high k)

-- Quotients --

over_all : (x : ℚ) (n : ℕ) → 0 < n → x ≡ int (pos n) *ℚ (x *ℚ one_over n)
over_all x n h = by_given {atoms = x ∷ int (pos n) ∷ one_over n ∷ []} (search reading) (search reading)
    (given (neg_ℚ x) (int (pos n) *ℚ one_over n) (int (pos 1)) (search reading) (search reading) (search reading) (one_over_cancel n h) none) refl

cell_product : (a : ℕ) (z : ℤ) → int (pos (100000 * a) *ℤ z) ≡ int (pos a) *ℚ int z *ℚ int (pos 100000)
cell_product a z = by_reading {atoms = int (pos a) ∷ int z ∷ []} (search reading) (search reading) refl

cell_inverse : (l b c : ℕ) → inverse (int (pos 3) *ℚ area_of b c *ℚ int (pos l)) ≡ one_over (3 * (l * (b * c)))
cell_inverse l b c = ap inverse (by_reading {atoms = int (pos l) ∷ int (pos b) ∷ int (pos c) ∷ []} (search reading depth 20) (search reading depth 20) refl) ∙ inverse-int (3 * (l * (b * c)))

pub flux_cell-quotient : (l a b c : ℕ) (z : ℤ) (p : ℚ) → 0 < l → 0 < b → 0 < c → int z ≡ p → IsQuotient (cell_loss (int (pos l)) (int (pos a)) (area_of b c) p) (pos (100000 * a) *ℤ z) (3 * (l * (b * c)))
flux_cell-quotient l a b c z p hl hb hc e = let above : 0 < 3 * (l * (b * c)) = triple (l * (b * c)) (mul_positive l (b * c) hl (mul_positive b c hb hc)) in record {
  positive = above;
  value = cell_product a z ∙ ap (λ (q : ℚ). int (pos a) *ℚ q *ℚ int (pos 100000)) e
      ∙ over_all (int (pos a) *ℚ p *ℚ int (pos 100000)) (3 * (l * (b * c))) above
      ∙ ap (λ (q : ℚ). int (pos (3 * (l * (b * c)))) *ℚ (int (pos a) *ℚ p *ℚ int (pos 100000) *ℚ q)) (sym (cell_inverse l b c));
}
  where
    triple : (n : ℕ) → 0 < n → 0 < 3 * n
    triple n h = omega arith

face_product : (r : ℕ) (f : ℤ) → int (pos r *ℤ (f *ℤ f)) ≡ int (pos r) *ℚ (int f *ℚ int f)
face_product r f = by_reading {atoms = int (pos r) ∷ int f ∷ []} (search reading) (search reading) refl

face_inverse : (b c : ℕ) → inverse (area_of b c) ≡ one_over (b * c)
face_inverse b c = ap inverse (by_reading {atoms = int (pos b) ∷ int (pos c) ∷ []} (search reading) (search reading) refl) ∙ inverse-int (b * c)

pub flux_face-quotient : (rs b c : ℕ) (f : ℤ) → 0 < b → 0 < c → IsQuotient (surface_loss rs (area_of b c) (int f)) (pos (10 * rs) *ℤ (f *ℤ f)) (b * c)
flux_face-quotient rs b c f hb hc = record {
  positive = mul_positive b c hb hc;
  value = face_product (10 * rs) f ∙ over_all (int (pos (10 * rs)) *ℚ (int f *ℚ int f)) (b * c) (mul_positive b c hb hc)
      ∙ ap (λ (q : ℚ). int (pos (b * c)) *ℚ (int (pos (10 * rs)) *ℚ (int f *ℚ int f) *ℚ q)) (sym (face_inverse b c));
}

-- How large a term is --

pub flux_cell-is : (x : FluxCell) → FitsFluxCell x → IsQuotient (flux_cell_term x) (pos (100000 * x.a) *ℤ whole_passage x.low x.high) (3 * (x.lambda * (x.b * x.c)))
flux_cell-is x h = flux_cell-quotient x.lambda x.a x.b x.c (whole_passage x.low x.high) _ h.conductivity.above_zero h.b.above_zero h.c.above_zero (whole_passage-is x.low x.high)

pub flux_face-is : (x : FluxFace) → FitsFluxFace x → IsQuotient (flux_face_term x) (pos (10 * x.rs) *ℤ (x.flow *ℤ x.flow)) (x.b * x.c)
flux_face-is x h = flux_face-quotient x.rs x.b x.c x.flow h.b.above_zero h.c.above_zero

pub flux_cell-divides : (x : FluxCell) → FitsFluxCell x → 0 < 3 * (x.lambda * (x.b * x.c))
flux_cell-divides x h = (flux_cell-is x h).positive

pub flux_cell-not_below_zero : (x : FluxCell) → FitsFluxCell x → int (pos 0) ≤ℚ flux_cell_term x
flux_cell-not_below_zero x h = quotient-not_below_zero _ _ _ (flux_cell-is x h) (mul-nonneg (pos (100000 * x.a)) (whole_passage x.low x.high) (pos-nonneg (100000 * x.a)) (whole_passage-not_below_zero x.low x.high))

pub flux_cell-bounded : (x : FluxCell) → FitsFluxCell x → flux_cell_term x ≤ℚ int (pos (5 * 10 ^ 34))
flux_cell-bounded x h = quotient-at_most _ _ _ (5 * 10 ^ 34) (flux_cell-is x h) (largest (x.lambda * (x.b * x.c)) _ (scaled-at_most (100000 * x.a) (whole_passage x.low x.high) (3 * 10 ^ 24) (5 * 10 ^ 10)
    (scaled x.a h.a.at_most) (whole_passage-at_most x.low x.high h.low h.high)) (mul_positive x.lambda (x.b * x.c) h.conductivity.above_zero (mul_positive x.b x.c h.b.above_zero h.c.above_zero)))
  where
    scaled : (a : ℕ) → a ≤ 500000 → 100000 * a ≤ 5 * 10 ^ 10
    scaled a h = omega arith

    largest : (n : ℕ) (z : ℤ) → z ≤ℤ pos (15 * 10 ^ 34) → 0 < n → z ≤ℤ pos (3 * n * (5 * 10 ^ 34))
    largest n z l h = omega (arith, ints)

pub flux_face-divides : (x : FluxFace) → FitsFluxFace x → 0 < x.b * x.c
flux_face-divides x h = (flux_face-is x h).positive

pub flux_face-not_below_zero : (x : FluxFace) → FitsFluxFace x → int (pos 0) ≤ℚ flux_face_term x
flux_face-not_below_zero x h = quotient-not_below_zero _ _ _ (flux_face-is x h) (mul-nonneg (pos (10 * x.rs)) (x.flow *ℤ x.flow) (pos-nonneg (10 * x.rs)) (square-nonneg x.flow))

pub flux_face-bounded : (x : FluxFace) → FitsFluxFace x → flux_face_term x ≤ℚ int (pos (10 ^ 30))
flux_face-bounded x h = quotient-at_most _ _ _ (10 ^ 30) (flux_face-is x h) (largest (x.b * x.c) _ (scaled-at_most (10 * x.rs) (x.flow *ℤ x.flow) (10 ^ 24) (10 ^ 6)
    (scaled x.rs h.resistance.at_most) (square-at_most x.flow (10 ^ 12) h.flow.at_most)) (mul_positive x.b x.c h.b.above_zero h.c.above_zero))
  where
    scaled : (rs : ℕ) → rs ≤ 100000 → 10 * rs ≤ 10 ^ 6
    scaled rs h = omega arith

    largest : (n : ℕ) (z : ℤ) → z ≤ℤ pos (10 ^ 30) → 0 < n → z ≤ℤ pos (n * 10 ^ 30)
    largest n z l h = omega (arith, ints)
