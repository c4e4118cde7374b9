-- The slope and the rate of a flux's energy along a list of flows, and what one flow more in the list adds to them.
use Rattle.std.proofs.Common.{◌≡◌, refl, sym, ap, ◌∙◌, arith, ℕ, suc, ◌<◌, ◌≤◌, List, [], ◌∷◌, length}
use Rattle.std.specs.Prelude.{slice_set}
use lib.IntN.{ℤ, pos, ◌+ℤ◌, ◌*ℤ◌}
use Rattle.tb_math.proofs.ReadIntegers.{by_reading, reading}
use Rattle.tb_math.proofs.SumLaws.{sum-cong}
use Rattle.tb_math.proofs.SumInstances.{adds_ℤ}
use Rattle.tb_places.specs.declared.AxisName.{AxisName}
use Rattle.tb_places.specs.declared.AxisName.TheVariants.{X, Y, Z}
use Rattle.tb_places.specs.Along.{place_along}
use Rattle.tb_places.specs.Places.{IsFace, along, face_number, place_at}
use Rattle.tb_weighted.specs.Forms.{Spread3, axis_sum, bit}
use Rattle.tb_weighted.specs.Flows.{FlowForms, Flows3, flow_cell, flow_cell_slope, flow_energy, flow_face, flow_face_rate, flow_face_slope, flow_rate, flow_slope}
use Rattle.tb_weighted.specs.FlowMoves.{through}
use Rattle.tb_weighted.specs.Least.{parabola}
use Rattle.tb_weighted.specs.Moves.{value_at}
use Rattle.tb_weighted.proofs.FlowLaws.{flows_parabola, shift_flows}
use Rattle.tb_weighted.proofs.FlowSlopes.{mix_flows, rate_of_one, rate_through, slope_linear, slope_of_one, slope_through}
use Rattle.tb_weighted.proofs.NodeMoves.{changed}
use Rattle.tb_weighted.proofs.SameFlows.{flows_same}
use Rattle.tb_weighted.proofs.Through.{bit_of_face}
use Rattle.tb_cycles.specs.Moves.{flows_through}

-- ---- slope and rate depend on the flows through the faces of the grid alone
both : (a a' b b' : ℤ) → a ≡ a' → b ≡ b' → a +ℤ b ≡ a' +ℤ b'
both a a' b b' e f = rw (e, f) refl

cell_same : (v g h a b a' b' : ℤ) → a ≡ a' → b ≡ b' → v *ℤ (a *ℤ (pos 2 *ℤ g +ℤ h) +ℤ b *ℤ (g +ℤ pos 2 *ℤ h)) ≡ v *ℤ (a' *ℤ (pos 2 *ℤ g +ℤ h) +ℤ b' *ℤ (g +ℤ pos 2 *ℤ h))
cell_same v g h a b a' b' e f = rw (e, f) refl

face_same : (s e g a a' : ℤ) → a ≡ a' → s *ℤ (pos 2 *ℤ (a *ℤ g)) +ℤ e *ℤ a ≡ s *ℤ (pos 2 *ℤ (a' *ℤ g)) +ℤ e *ℤ a'
face_same s e g a a' h = rw h refl

module _ (n m p : ℕ) (v s e g u w : Spread3) (same : (i j k : ℕ) → i ≤ n → j < m → k < p → u i j k ≡ w i j k) where
  axis_slope_same : axis_sum n m p (flow_cell_slope v g u) (flow_face_slope s e g u) ≡ axis_sum n m p (flow_cell_slope v g w) (flow_face_slope s e g w)
  unfolding axis_sum
  axis_slope_same = sum-cong adds_ℤ p _ _ (λ k c. sum-cong adds_ℤ m _ _ (λ j b. both _ _ _ _
      (sum-cong adds_ℤ n _ _ (λ i a. cell_same (v i j k) (g i j k) (g (suc i) j k) (u i j k) (u (suc i) j k) (w i j k) (w (suc i) j k) (same i j k (omega arith) b c) (same (suc i) j k (omega arith) b c)))
      (sum-cong adds_ℤ (suc n) _ _ (λ i a. face_same (s i j k) (e i j k) (g i j k) (u i j k) (w i j k) (same i j k (omega arith) b c)))))

pub slope_same : (f : FlowForms) (q u w : Flows3) → ((a : AxisName) (i j k : ℕ) → IsFace f.cells a (place_at i j k) → u a i j k ≡ w a i j k) → flow_slope f q u ≡ flow_slope f q w
unfolding flow_slope
slope_same f q u w same = both _ _ _ _ (both _ _ _ _
    (axis_slope_same (f.cells X) (f.cells Y) (f.cells Z) (f.cell X) (f.face X) (f.source X) (along X (q X)) (along X (u X)) (along X (w X)) (λ i j k a b c. same X i j k (a, b, c)))
    (axis_slope_same (f.cells Y) (f.cells X) (f.cells Z) (f.cell Y) (f.face Y) (f.source Y) (along Y (q Y)) (along Y (u Y)) (along Y (w Y)) (λ i j k a b c. same Y j i k (b, a, c))))
    (axis_slope_same (f.cells Z) (f.cells X) (f.cells Y) (f.cell Z) (f.face Z) (f.source Z) (along Z (q Z)) (along Z (u Z)) (along Z (w Z)) (λ i j k a b c. same Z j k i (b, c, a)))

-- a form without a source: its energy is the rate
abbrev pub no_source : FlowForms → FlowForms
no_source f = record { cells = f.cells; cell = f.cell; face = f.face; source = λ a i j k. pos 0 }

alone : (s g : ℤ) → s *ℤ (g *ℤ g) +ℤ pos 0 *ℤ g ≡ s *ℤ (g *ℤ g)
alone s g = by_reading {atoms = s ∷ g ∷ []} (search reading) (search reading) refl

axis_alone : (n m p : ℕ) (v s g : Spread3) → axis_sum n m p (flow_cell v g) (flow_face s (λ i j k. pos 0) g) ≡ axis_sum n m p (flow_cell v g) (flow_face_rate s g)
unfolding axis_sum
axis_alone n m p v s g = sum-cong adds_ℤ p _ _ (λ k c. sum-cong adds_ℤ m _ _ (λ j b. both _ _ _ _ refl
    (sum-cong adds_ℤ (suc n) _ _ (λ i a. alone (s i j k) (g i j k)))))

pub energy_is_rate : (f : FlowForms) (q : Flows3) → flow_energy (no_source f) q ≡ flow_rate f q
unfolding flow_energy flow_rate
energy_is_rate f q = both _ _ _ _ (both _ _ _ _
    (axis_alone (f.cells X) (f.cells Y) (f.cells Z) (f.cell X) (f.face X) (along X (q X)))
    (axis_alone (f.cells Y) (f.cells X) (f.cells Z) (f.cell Y) (f.face Y) (along Y (q Y))))
    (axis_alone (f.cells Z) (f.cells X) (f.cells Y) (f.cell Z) (f.face Z) (along Z (q Z)))

rate_no_source : (f : FlowForms) (q : Flows3) → flow_rate (no_source f) q ≡ flow_rate f q
unfolding flow_rate
rate_no_source f q = refl

-- ---- one flow more in a list
-- what one flow more through a face meets of the flows that are there
abbrev pub crossing : FlowForms → Flows3 → AxisName → ℕ → ℕ → ℕ → ℤ
crossing f u b p j k = slope_of_one (no_source f) u b p j k

one_times : (x y : ℤ) → x +ℤ y ≡ pos 1 *ℤ x +ℤ y
one_times x y = by_reading {atoms = x ∷ y ∷ []} (search reading) (search reading) refl

times_one : (s x t : ℤ) → pos 1 *ℤ s +ℤ x *ℤ t ≡ s +ℤ x *ℤ t
times_one s x t = by_reading {atoms = s ∷ x ∷ t ∷ []} (search reading) (search reading) refl

no_more : (x y : ℤ) → x ≡ pos 0 → y ≡ x +ℤ y
no_more x y e = rw e (by_reading {atoms = y ∷ []} (search reading) (search reading) refl)

spread_out : (r s x o : ℤ) → parabola r s x +ℤ o ≡ (o +ℤ x *ℤ s) +ℤ (x *ℤ x) *ℤ r
spread_out r s x o = by_reading {atoms = r ∷ s ∷ x ∷ o ∷ []} (search reading depth 60 fits 100000) (search reading depth 60 fits 100000) refl

three_same : (a b x c d r t : ℤ) → a ≡ b → c ≡ d → r ≡ t → (a +ℤ x *ℤ c) +ℤ (x *ℤ x) *ℤ r ≡ (b +ℤ x *ℤ d) +ℤ (x *ℤ x) *ℤ t
three_same a b x c d r t e g h = rw (e, g, h) refl

module _ (f : FlowForms) (flows : List ℤ) (x : ℤ) (b : AxisName) (p j k : ℕ) (face : IsFace f.cells b (place_along b p j k))
    (below : face_number f.cells b (place_along b p j k) < length flows) (none : value_at flows (face_number f.cells b (place_along b p j k)) ≡ pos 0) where
  abbrev at : ℕ
  at = face_number f.cells b (place_along b p j k)

  abbrev more : List ℤ
  more = slice_set flows at x

  added : (i : ℕ) → value_at more i ≡ value_at flows i +ℤ x *ℤ bit i at
  added i = ap (λ (z : ℤ). value_at (slice_set flows at z) i) (no_more (value_at flows at) x none) ∙ changed flows at x i below

  mixed_at : (a : AxisName) (i q r : ℕ) → IsFace f.cells a (place_at i q r) → flows_through f.cells more a i q r ≡ mix_flows (pos 1) x (flows_through f.cells flows) (through b p j k) a i q r
  mixed_at a i q r h = added (face_number f.cells a (place_at i q r))
      ∙ ap (λ (z : ℤ). value_at flows (face_number f.cells a (place_at i q r)) +ℤ x *ℤ z) (bit_of_face f.cells a i q r b p j k h face)
      ∙ one_times (value_at flows (face_number f.cells a (place_at i q r))) (x *ℤ through b p j k a i q r)

  pub slope_more : (q : Flows3) → flow_slope f q (flows_through f.cells more) ≡ flow_slope f q (flows_through f.cells flows) +ℤ x *ℤ slope_of_one f q b p j k
  slope_more q = slope_same f q (flows_through f.cells more) (mix_flows (pos 1) x (flows_through f.cells flows) (through b p j k)) mixed_at
      ∙ slope_linear f q (pos 1) x (flows_through f.cells flows) (through b p j k)
      ∙ times_one (flow_slope f q (flows_through f.cells flows)) x (flow_slope f q (through b p j k))
      ∙ ap (λ (z : ℤ). flow_slope f q (flows_through f.cells flows) +ℤ x *ℤ z) (slope_through f q b p j k)

  shifted_at : (a : AxisName) (i q r : ℕ) → IsFace f.cells a (place_at i q r) → flows_through f.cells more a i q r ≡ shift_flows (flows_through f.cells flows) (through b p j k) x a i q r
  shifted_at a i q r h = added (face_number f.cells a (place_at i q r))
      ∙ ap (λ (z : ℤ). value_at flows (face_number f.cells a (place_at i q r)) +ℤ x *ℤ z) (bit_of_face f.cells a i q r b p j k h face)

  pub rate_more : flow_rate f (flows_through f.cells more) ≡ (flow_rate f (flows_through f.cells flows) +ℤ x *ℤ crossing f (flows_through f.cells flows) b p j k) +ℤ (x *ℤ x) *ℤ rate_of_one f b p j k
  rate_more = sym (energy_is_rate f (flows_through f.cells more))
      ∙ flows_same (no_source f) (flows_through f.cells more) (shift_flows (flows_through f.cells flows) (through b p j k) x) shifted_at
      ∙ (flows_parabola (no_source f) (flows_through f.cells flows) (through b p j k)).at x
      ∙ spread_out (flow_rate (no_source f) (through b p j k)) (flow_slope (no_source f) (flows_through f.cells flows) (through b p j k)) x (flow_energy (no_source f) (flows_through f.cells flows))
      ∙ three_same _ _ x _ _ _ _ (energy_is_rate f (flows_through f.cells flows)) (slope_through (no_source f) (flows_through f.cells flows) b p j k) (rate_no_source f (through b p j k) ∙ rate_through f b p j k)
