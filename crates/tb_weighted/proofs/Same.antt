-- The energy of a form depends on the values at the nodes of its grid alone.
use mathlib.Core.Path.{◌≡◌, refl}
use Prim.Native.Nat.{ℕ, suc, ◌<◌, ◌≤◌}
use native.Mathlib.Omega.{arith}
use lib.IntN.{ℤ, ◌+ℤ◌, ◌-ℤ◌, ◌*ℤ◌}
use Rattle.tb_math.proofs.SumLaws.{sum-cong}
use Rattle.tb_math.proofs.SumInstances.{adds_ℤ}
use Rattle.tb_places.specs.declared.AxisName.TheVariants.{X, Y, Z}
use Rattle.tb_places.specs.Places.{along, IsNode, place_at}
use Rattle.tb_weighted.specs.Forms.{form, Spread3, cell_part, face_part, axis_sum, Forms, form_energy}

eight : (w a0 a1 a2 a3 a4 a5 a6 a7 b0 b1 b2 b3 b4 b5 b6 b7 : ℤ) → a0 ≡ b0 → a1 ≡ b1 → a2 ≡ b2 → a3 ≡ b3 → a4 ≡ b4 → a5 ≡ b5 → a6 ≡ b6 → a7 ≡ b7 → w *ℤ form (a1 -ℤ a0) (a3 -ℤ a2) (a5 -ℤ a4) (a7 -ℤ a6) ≡ w *ℤ form (b1 -ℤ b0) (b3 -ℤ b2) (b5 -ℤ b4) (b7 -ℤ b6)
eight w a0 a1 a2 a3 a4 a5 a6 a7 b0 b1 b2 b3 b4 b5 b6 b7 e0 e1 e2 e3 e4 e5 e6 e7 = rw (e0, e1, e2, e3, e4, e5, e6, e7) refl

four : (s l a0 a1 a2 a3 b0 b1 b2 b3 : ℤ) → a0 ≡ b0 → a1 ≡ b1 → a2 ≡ b2 → a3 ≡ b3 → s *ℤ form (a0 -ℤ l) (a1 -ℤ l) (a2 -ℤ l) (a3 -ℤ l) ≡ s *ℤ form (b0 -ℤ l) (b1 -ℤ l) (b2 -ℤ l) (b3 -ℤ l)
four s l a0 a1 a2 a3 b0 b1 b2 b3 e0 e1 e2 e3 = rw (e0, e1, e2, e3) refl

both : (a a' b b' : ℤ) → a ≡ a' → b ≡ b' → a +ℤ b ≡ a' +ℤ b'
both a a' b b' e f = rw (e, f) refl

module _ (n m p : ℕ) (w s l g h : Spread3) (same : (i j k : ℕ) → i ≤ n → j ≤ m → k ≤ p → g i j k ≡ h i j k) where
  cell_same : (i j k : ℕ) → i < n → j < m → k < p → cell_part w g i j k ≡ cell_part w h i j k
  cell_same i j k a b c = eight (w i j k) (g i j k) (g (suc i) j k) (g i (suc j) k) (g (suc i) (suc j) k) (g i j (suc k)) (g (suc i) j (suc k)) (g i (suc j) (suc k)) (g (suc i) (suc j) (suc k))
      (h i j k) (h (suc i) j k) (h i (suc j) k) (h (suc i) (suc j) k) (h i j (suc k)) (h (suc i) j (suc k)) (h i (suc j) (suc k)) (h (suc i) (suc j) (suc k))
      (same i j k (omega arith) (omega arith) (omega arith)) (same (suc i) j k (omega arith) (omega arith) (omega arith)) (same i (suc j) k (omega arith) (omega arith) (omega arith)) (same (suc i) (suc j) k (omega arith) (omega arith) (omega arith))
      (same i j (suc k) (omega arith) (omega arith) (omega arith)) (same (suc i) j (suc k) (omega arith) (omega arith) (omega arith)) (same i (suc j) (suc k) (omega arith) (omega arith) (omega arith)) (same (suc i) (suc j) (suc k) (omega arith) (omega arith) (omega arith))

  face_same : (i j k : ℕ) → i ≤ n → j < m → k < p → face_part s l g i j k ≡ face_part s l h i j k
  face_same i j k a b c = four (s i j k) (l i j k) (g i j k) (g i (suc j) k) (g i j (suc k)) (g i (suc j) (suc k)) (h i j k) (h i (suc j) k) (h i j (suc k)) (h i (suc j) (suc k))
      (same i j k (omega arith) (omega arith) (omega arith)) (same i (suc j) k (omega arith) (omega arith) (omega arith)) (same i j (suc k) (omega arith) (omega arith) (omega arith)) (same i (suc j) (suc k) (omega arith) (omega arith) (omega arith))

  pub axis_same : axis_sum n m p (cell_part w g) (face_part s l g) ≡ axis_sum n m p (cell_part w h) (face_part s l h)
  unfolding axis_sum
  axis_same = sum-cong adds_ℤ p _ _ (λ k c. sum-cong adds_ℤ m _ _ (λ j b.
      both _ _ _ _ (sum-cong adds_ℤ n _ _ (λ i a. cell_same i j k a b c)) (sum-cong adds_ℤ (suc n) _ _ (λ i a. face_same i j k (omega arith) b c))))

pub energy_same : (f : Forms) (g h : Spread3) → ((i j k : ℕ) → IsNode f.cells (place_at i j k) → g i j k ≡ h i j k) → form_energy f g ≡ form_energy f h
unfolding form_energy
energy_same f g h same = both _ _ _ _ (both _ _ _ _
    (axis_same (f.cells X) (f.cells Y) (f.cells Z) (f.cell X) (f.face X) (f.level X) (along X g) (along X h) (λ i j k a b c. same i j k (a, b, c)))
    (axis_same (f.cells Y) (f.cells X) (f.cells Z) (f.cell Y) (f.face Y) (f.level Y) (along Y g) (along Y h) (λ i j k a b c. same j i k (b, a, c))))
    (axis_same (f.cells Z) (f.cells X) (f.cells Y) (f.cell Z) (f.face Z) (f.level Z) (along Z g) (along Z h) (λ i j k a b c. same j k i (b, c, a)))
