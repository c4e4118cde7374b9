-- The energy of a form of flows depends on the flows through the faces of its grid alone.
use mathlib.Core.Path.{◌≡◌, refl}
use Prim.Native.Nat.{ℕ, suc, ◌<◌, ◌≤◌}
use native.Mathlib.Omega.{arith}
use lib.IntN.{ℤ, ◌+ℤ◌, ◌*ℤ◌}
use Rattle.tb_math.proofs.SumLaws.{sum-cong}
use Rattle.tb_math.proofs.SumInstances.{adds_ℤ}
use Rattle.tb_places.specs.declared.AxisName.{AxisName}
use Rattle.tb_places.specs.declared.AxisName.TheVariants.{X, Y, Z}
use Rattle.tb_places.specs.Places.{along, IsFace, place_at}
use Rattle.tb_weighted.specs.Forms.{Spread3, axis_sum}
use Rattle.tb_weighted.specs.Flows.{FlowForms, Flows3, flow_cell, flow_face, flow_energy}

two : (v a b a' b' : ℤ) → a ≡ a' → b ≡ b' → v *ℤ (a *ℤ a +ℤ a *ℤ b +ℤ b *ℤ b) ≡ v *ℤ (a' *ℤ a' +ℤ a' *ℤ b' +ℤ b' *ℤ b')
two v a b a' b' e f = rw (e, f) refl

one : (s e a a' : ℤ) → a ≡ a' → s *ℤ (a *ℤ a) +ℤ e *ℤ a ≡ s *ℤ (a' *ℤ a') +ℤ e *ℤ a'
one s e a a' h = rw h refl

both : (a a' b b' : ℤ) → a ≡ a' → b ≡ b' → a +ℤ b ≡ a' +ℤ b'
both a a' b b' e f = rw (e, f) refl

module _ (n m p : ℕ) (v s e g h : Spread3) (same : (i j k : ℕ) → i ≤ n → j < m → k < p → g i j k ≡ h i j k) where
  axis_same : axis_sum n m p (flow_cell v g) (flow_face s e g) ≡ axis_sum n m p (flow_cell v h) (flow_face s e h)
  unfolding axis_sum
  axis_same = sum-cong adds_ℤ p _ _ (λ k c. sum-cong adds_ℤ m _ _ (λ j b. both _ _ _ _
      (sum-cong adds_ℤ n _ _ (λ i a. two (v i j k) (g i j k) (g (suc i) j k) (h i j k) (h (suc i) j k) (same i j k (omega arith) b c) (same (suc i) j k (omega arith) b c)))
      (sum-cong adds_ℤ (suc n) _ _ (λ i a. one (s i j k) (e i j k) (g i j k) (h i j k) (same i j k (omega arith) b c)))))

pub flows_same : (f : FlowForms) (q r : Flows3) → ((a : AxisName) (i j k : ℕ) → IsFace f.cells a (place_at i j k) → q a i j k ≡ r a i j k) → flow_energy f q ≡ flow_energy f r
unfolding flow_energy
flows_same f q r same = both _ _ _ _ (both _ _ _ _
    (axis_same (f.cells X) (f.cells Y) (f.cells Z) (f.cell X) (f.face X) (f.source X) (along X (q X)) (along X (r X)) (λ i j k a b c. same X i j k (a, b, c)))
    (axis_same (f.cells Y) (f.cells X) (f.cells Z) (f.cell Y) (f.face Y) (f.source Y) (along Y (q Y)) (along Y (r Y)) (λ i j k a b c. same Y j i k (b, a, c))))
    (axis_same (f.cells Z) (f.cells X) (f.cells Y) (f.cell Z) (f.face Z) (f.source Z) (along Z (q Z)) (along Z (r Z)) (λ i j k a b c. same Z j k i (b, c, a)))
