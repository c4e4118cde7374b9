-- The terms of the loss and of the weighted energy of a flux, of a cell and of a surface face.
use mathlib.Core.Path.{◌≡◌, refl, sym, ap, ◌∙◌}
use mathlib.Core.List.{[], ◌∷◌}
use Prim.Native.Nat.{ℕ, ◌*◌, ◌-◌, ◌^◌, ◌<◌}
use native.Mathlib.Omega.{arith}
use Rattle.std.proofs.lemmas.Int.{ints}
use lib.IntN.{ℤ, pos, negsuc}
use Rattle.tb_math.specs.Integers.{pos-nonneg}
use Rattle.tb_math.specs.Rational.{ℚ, int, ◌*ℚ◌, ◌<ℚ◌}
use Rattle.tb_math.proofs.RationalLaws.{int-mul}
use Rattle.tb_math.specs.Division.{inverse, ◌/ℚ◌}
use Rattle.tb_math.proofs.DivisionLaws.{inverse-mul, inverse-nonneg, inverse-positive, product-is_positive}
use Rattle.tb_math.proofs.RationalOrder.{≤ℚ-int, ≤ℚ-mul_nonneg}
use Rattle.tb_math.proofs.StrictOrder.{<ℚ-int, <ℚ-≤}
use Rattle.tb_math.proofs.ReadRationals.{by_given, given, none, reading}
use Rattle.tb_model.specs.Energy.{cell_loss, surface_loss}
use Rattle.tb_costs.proofs.Weights.{IsWeighted}
use Rattle.tb_costs.proofs.Flows.{IsForm}

numeral_positive : (n : ℕ) → 0 < n → int (pos 0) <ℚ int (pos n)
numeral_positive n h = <ℚ-int (pos 0) (pos n) (omega (arith, ints, h))

-- a cell, of width w, section s and conductivity c
cell_same : (w u v y P : ℚ) → int (pos 3) *ℚ u ≡ int (pos 1) →
    int (pos (3 * 2 ^ 44)) *ℚ (w *ℚ P *ℚ int (pos (10 ^ 5)) *ℚ (u *ℚ v *ℚ y)) ≡ int (pos (10 ^ 5)) *ℚ (w *ℚ int (pos (2 ^ 44)) *ℚ (v *ℚ y) *ℚ P)
cell_same w u v y P e = by_given {atoms = w ∷ u ∷ v ∷ y ∷ P ∷ []} (search reading depth 40 fits 20000) (search reading depth 40 fits 20000)
    (given (int (pos (10 ^ 5 * 2 ^ 44)) *ℚ (w *ℚ P *ℚ (v *ℚ y))) (int (pos 3) *ℚ u) (int (pos 1)) (search reading depth 40 fits 20000) (search reading) (search reading) e none) refl

cell_parts : (s c : ℚ) → inverse (int (pos 3) *ℚ s *ℚ c) ≡ inverse (int (pos 3)) *ℚ inverse s *ℚ inverse c
cell_parts s c = inverse-mul (int (pos 3) *ℚ s) c ∙ ap (λ (t : ℚ). t *ℚ inverse c) (inverse-mul (int (pos 3)) s)

pub cell_weighted : (c w s P : ℚ) (form : ℤ) → int (pos 0) <ℚ c → int (pos 0) <ℚ w → int (pos 0) <ℚ s → IsForm P form → IsWeighted (cell_loss c w s P) (w *ℚ int (pos (2 ^ 44)) /ℚ (s *ℚ c)) form
cell_weighted c w s P form hc hw hs f = record {
  same = ap (λ (t : ℚ). int (pos (3 * 2 ^ 44)) *ℚ (w *ℚ P *ℚ int (pos (10 ^ 5)) *ℚ t)) (cell_parts s c)
      ∙ cell_same w (inverse (int (pos 3))) (inverse s) (inverse c) P (inverse-positive (int (pos 3)) (numeral_positive 3 (omega arith)))
      ∙ ap (λ (t : ℚ). int (pos (10 ^ 5)) *ℚ (w *ℚ int (pos (2 ^ 44)) *ℚ t *ℚ P)) (sym (inverse-mul s c))
      ∙ ap (λ (t : ℚ). int (pos (10 ^ 5)) *ℚ (w *ℚ int (pos (2 ^ 44)) /ℚ (s *ℚ c) *ℚ t)) f.is;
  weight = ≤ℚ-mul_nonneg (w *ℚ int (pos (2 ^ 44))) (inverse (s *ℚ c))
      (≤ℚ-mul_nonneg w (int (pos (2 ^ 44))) (<ℚ-≤ (int (pos 0)) w hw) (≤ℚ-int (pos 0) (pos (2 ^ 44)) (omega (arith, ints))))
      (inverse-nonneg (s *ℚ c) (<ℚ-≤ (int (pos 0)) (s *ℚ c) (product-is_positive s c hs hc)));
  not_below_zero = f.not_below_zero;
}

-- a surface face, of resistance rs and section s
face_same : (r v u P : ℚ) → int (pos (10 ^ 4)) *ℚ u ≡ int (pos 1) →
    int (pos (3 * 2 ^ 44)) *ℚ (int (pos 10) *ℚ r *ℚ P *ℚ v) ≡ int (pos (10 ^ 5)) *ℚ (int (pos 3) *ℚ r *ℚ int (pos (2 ^ 44)) *ℚ (v *ℚ u) *ℚ P)
face_same r v u P e = by_given {atoms = r ∷ v ∷ u ∷ P ∷ []} (search reading depth 40 fits 20000) (search reading depth 40 fits 20000)
    (given (int (negsuc (30 * 2 ^ 44 - 1)) *ℚ (r *ℚ (P *ℚ v))) (int (pos (10 ^ 4)) *ℚ u) (int (pos 1)) (search reading depth 40 fits 20000) (search reading) (search reading) e none) refl

pub face_weighted : (rs : ℕ) (s F : ℚ) (form : ℤ) → int (pos 0) <ℚ s → IsForm (F *ℚ F) form → IsWeighted (surface_loss rs s F) (int (pos (3 * rs * 2 ^ 44)) /ℚ (s *ℚ int (pos (10 ^ 4)))) form
face_weighted rs s F form hs f = record {
  same = ap (λ (t : ℚ). int (pos (3 * 2 ^ 44)) *ℚ (t *ℚ (F *ℚ F) *ℚ inverse s)) (int-mul (pos 10) (pos rs))
      ∙ face_same (int (pos rs)) (inverse s) (inverse (int (pos (10 ^ 4)))) (F *ℚ F) (inverse-positive (int (pos (10 ^ 4))) (numeral_positive (10 ^ 4) (omega arith)))
      ∙ ap (λ (t : ℚ). int (pos (10 ^ 5)) *ℚ (t *ℚ (inverse s *ℚ inverse (int (pos (10 ^ 4)))) *ℚ (F *ℚ F))) (sym (int-mul (pos (3 * rs)) (pos (2 ^ 44)) ∙ ap (λ (t : ℚ). t *ℚ int (pos (2 ^ 44))) (int-mul (pos 3) (pos rs))))
      ∙ ap (λ (t : ℚ). int (pos (10 ^ 5)) *ℚ (int (pos (3 * rs * 2 ^ 44)) *ℚ t *ℚ (F *ℚ F))) (sym (inverse-mul s (int (pos (10 ^ 4)))))
      ∙ ap (λ (t : ℚ). int (pos (10 ^ 5)) *ℚ (int (pos (3 * rs * 2 ^ 44)) /ℚ (s *ℚ int (pos (10 ^ 4))) *ℚ t)) f.is;
  weight = ≤ℚ-mul_nonneg (int (pos (3 * rs * 2 ^ 44))) (inverse (s *ℚ int (pos (10 ^ 4))))
      (≤ℚ-int (pos 0) (pos (3 * rs * 2 ^ 44)) (pos-nonneg (3 * rs * 2 ^ 44)))
      (inverse-nonneg (s *ℚ int (pos (10 ^ 4))) (<ℚ-≤ (int (pos 0)) (s *ℚ int (pos (10 ^ 4))) (product-is_positive s (int (pos (10 ^ 4))) hs (numeral_positive (10 ^ 4) (omega arith)))));
  not_below_zero = f.not_below_zero;
}
