-- The flow energy is a parabola in the change of a flux along any direction, as along a loop.
use mathlib.Core.Path.{◌≡◌, refl, ap, ◌∙◌}
use mathlib.Core.List.{[], ◌∷◌}
use Prim.Native.Nat.{ℕ, suc, ◌<◌, ◌≤◌}
use native.Mathlib.Omega.{arith}
use Rattle.std.proofs.Common.{◌≢◌}
use Rattle.std.proofs.lemmas.Int.{ints}
use lib.IntN.{ℤ, pos, ◌+ℤ◌, ◌*ℤ◌}
use Rattle.tb_math.specs.Sums.{total_ℤ}
use Rattle.tb_math.proofs.ReadIntegers.{by_reading, reading}
use Rattle.tb_places.specs.declared.AxisName.TheVariants.{X, Y, Z}
use Rattle.tb_places.specs.Places.{along}
use Rattle.tb_weighted.specs.Least.{parabola}
use Rattle.tb_weighted.specs.Forms.{Spread3, line_sum, axis_sum, line_near, near, only_at, bit}
use Rattle.tb_weighted.specs.Flows.{flow_cell, flow_face, flow_cell_slope, flow_face_slope, flow_face_rate, FlowForms, Flows3, over_flows, flow_energy, flow_rate, flow_slope}
use Rattle.tb_weighted.proofs.Corners.{flux}
use Rattle.tb_weighted.proofs.Unique.{IsParabola}
use Rattle.tb_weighted.proofs.Local.{total_parabola, total_near, total_none, total_support, bit_same, bit_other}
use Rattle.tb_weighted.proofs.Near.{Away}
use Rattle.tb_weighted.proofs.Quadratic.{shift, plus_parabola}

-- sums over an axis of parabolas
module _ (n m p : ℕ) (cell face : ℤ → Spread3) (ca cb cc fa fb fc : Spread3)
    (in_cell : (i j k : ℕ) → IsParabola (λ t. cell t i j k) (ca i j k) (cb i j k) (cc i j k)) (at_face : (i j k : ℕ) → IsParabola (λ t. face t i j k) (fa i j k) (fb i j k) (fc i j k)) where
  on_line : (j k : ℕ) → IsParabola (λ t. line_sum n (cell t) (face t) j k) (line_sum n ca fa j k) (line_sum n cb fb j k) (line_sum n cc fc j k)
  on_line j k = plus_parabola (λ t. total_ℤ n (λ i. cell t i j k)) (λ t. total_ℤ (suc n) (λ i. face t i j k)) _ _ _ _ _ _
      (total_parabola n (λ i t. cell t i j k) (λ i. ca i j k) (λ i. cb i j k) (λ i. cc i j k) (λ i. in_cell i j k))
      (total_parabola (suc n) (λ i t. face t i j k) (λ i. fa i j k) (λ i. fb i j k) (λ i. fc i j k) (λ i. at_face i j k))

  pub axis_of_parabolas : IsParabola (λ t. axis_sum n m p (cell t) (face t)) (axis_sum n m p ca fa) (axis_sum n m p cb fb) (axis_sum n m p cc fc)
  unfolding axis_sum
  axis_of_parabolas = total_parabola p (λ k t. total_ℤ m (λ j. line_sum n (cell t) (face t) j k)) (λ k. total_ℤ m (λ j. line_sum n ca fa j k)) (λ k. total_ℤ m (λ j. line_sum n cb fb j k)) (λ k. total_ℤ m (λ j. line_sum n cc fc j k))
      (λ k. total_parabola m (λ j t. line_sum n (cell t) (face t) j k) (λ j. line_sum n ca fa j k) (λ j. line_sum n cb fb j k) (λ j. line_sum n cc fc j k) (λ j. on_line j k))

at_face : (s e f u t : ℤ) → s *ℤ ((f +ℤ t *ℤ u) *ℤ (f +ℤ t *ℤ u)) +ℤ e *ℤ (f +ℤ t *ℤ u) ≡ parabola (s *ℤ (u *ℤ u)) (s *ℤ (pos 2 *ℤ (u *ℤ f)) +ℤ e *ℤ u) t +ℤ (s *ℤ (f *ℤ f) +ℤ e *ℤ f)
at_face s e f u t = by_reading {atoms = s ∷ e ∷ f ∷ u ∷ t ∷ []} (search reading depth 60 fits 100000) (search reading depth 60 fits 100000) refl

axis_flow : (n m p : ℕ) (v s e g u : Spread3) → IsParabola (λ t. axis_sum n m p (flow_cell v (shift g u t)) (flow_face s e (shift g u t)))
    (axis_sum n m p (flow_cell v u) (flow_face_rate s u)) (axis_sum n m p (flow_cell_slope v g u) (flow_face_slope s e g u)) (axis_sum n m p (flow_cell v g) (flow_face s e g))
axis_flow n m p v s e g u = axis_of_parabolas n m p (λ t. flow_cell v (shift g u t)) (λ t. flow_face s e (shift g u t)) (flow_cell v u) (flow_cell_slope v g u) (flow_cell v g) (flow_face_rate s u) (flow_face_slope s e g u) (flow_face s e g)
    (λ i j k. record { at = λ t. flux (v i j k) (g i j k) (g (suc i) j k) (u i j k) (u (suc i) j k) t })
    (λ i j k. record { at = λ t. at_face (s i j k) (e i j k) (g i j k) (u i j k) t })

abbrev pub shift_flows : Flows3 → Flows3 → ℤ → Flows3
shift_flows q u t a = shift (q a) (u a) t

-- the whole energy of a flux that changes along a direction
pub flows_parabola : (f : FlowForms) (q u : Flows3) → IsParabola (λ t. flow_energy f (shift_flows q u t)) (flow_rate f u) (flow_slope f q u) (flow_energy f q)
unfolding flow_energy flow_rate flow_slope
flows_parabola f q u = plus_parabola (λ t. over_flows f X (flow_cell (f.cell X) (along X (shift_flows q u t X))) (flow_face (f.face X) (f.source X) (along X (shift_flows q u t X))) +ℤ over_flows f Y (flow_cell (f.cell Y) (along Y (shift_flows q u t Y))) (flow_face (f.face Y) (f.source Y) (along Y (shift_flows q u t Y))))
    (λ t. over_flows f Z (flow_cell (f.cell Z) (along Z (shift_flows q u t Z))) (flow_face (f.face Z) (f.source Z) (along Z (shift_flows q u t Z)))) _ _ _ _ _ _
    (plus_parabola (λ t. over_flows f X (flow_cell (f.cell X) (along X (shift_flows q u t X))) (flow_face (f.face X) (f.source X) (along X (shift_flows q u t X))))
    (λ t. over_flows f Y (flow_cell (f.cell Y) (along Y (shift_flows q u t Y))) (flow_face (f.face Y) (f.source Y) (along Y (shift_flows q u t Y)))) _ _ _ _ _ _
    (axis_flow (f.cells X) (f.cells Y) (f.cells Z) (f.cell X) (f.face X) (f.source X) (along X (q X)) (along X (u X)))
    (axis_flow (f.cells Y) (f.cells X) (f.cells Z) (f.cell Y) (f.face Y) (f.source Y) (along Y (q Y)) (along Y (u Y))))
    (axis_flow (f.cells Z) (f.cells X) (f.cells Y) (f.cell Z) (f.face Z) (f.source Z) (along Z (q Z)) (along Z (u Z)))

-- ---- the change of one face
none_plus : (x y : ℤ) → x ≡ pos 0 → y ≡ pos 0 → x +ℤ y ≡ pos 0
none_plus x y e f = omega (arith, ints)

one_left : (x : ℤ) → x +ℤ pos 0 ≡ x
one_left x = omega (arith, ints)

pub record IsOnLine (p q r : ℕ) (cell face : Spread3) : Type 0 where
  pub cell_i : (i j k : ℕ) → Away i p → cell i j k ≡ pos 0
  pub cell_j : (i j k : ℕ) → j ≢ q → cell i j k ≡ pos 0
  pub cell_k : (i j k : ℕ) → k ≢ r → cell i j k ≡ pos 0
  pub face_i : (i j k : ℕ) → i ≢ p → face i j k ≡ pos 0
  pub face_j : (i j k : ℕ) → j ≢ q → face i j k ≡ pos 0
  pub face_k : (i j k : ℕ) → k ≢ r → face i j k ≡ pos 0

-- of an axis' sum the two cells and the face on its line remain
pub axis_on_line : (n m l p q r : ℕ) (cell face : Spread3) → p ≤ n → q < m → r < l → IsOnLine p q r cell face → axis_sum n m l cell face ≡ line_near n cell face p q r
unfolding axis_sum
axis_on_line n m l p q r cell face hp hq hr s =
    total_support l (λ k. total_ℤ m (λ j. line_sum n cell face j k)) (r ∷ []) (tt, tt) (hr, tt) (λ k b o. total_none m (λ j. line_sum n cell face j k) (λ j c.
    none_plus (total_ℤ n (λ i. cell i j k)) (total_ℤ (suc n) (λ i. face i j k)) (total_none n (λ i. cell i j k) (λ i d. s.cell_k i j k o.0)) (total_none (suc n) (λ i. face i j k) (λ i d. s.face_k i j k o.0))))
    ∙ one_left (total_ℤ m (λ j. line_sum n cell face j r))
    ∙ total_support m (λ j. line_sum n cell face j r) (q ∷ []) (tt, tt) (hq, tt) (λ j c o.
    none_plus (total_ℤ n (λ i. cell i j r)) (total_ℤ (suc n) (λ i. face i j r)) (total_none n (λ i. cell i j r) (λ i d. s.cell_j i j r o.0)) (total_none (suc n) (λ i. face i j r) (λ i d. s.face_j i j r o.0)))
    ∙ one_left (line_sum n cell face q r)
    ∙ ap (λ (z : ℤ). z +ℤ total_ℤ (suc n) (λ i. face i q r)) (total_near n p (λ i. cell i q r) hp (λ i d a b. s.cell_i i q r (a, b)))
    ∙ ap (λ (z : ℤ). near n p (λ i. cell i q r) +ℤ z) (total_support (suc n) (λ i. face i q r) (p ∷ []) (tt, tt) (omega arith, tt) (λ i d o. s.face_i i q r o.0) ∙ one_left (face p q r))

cs_x : (v g h x0 x1 y z : ℤ) → x0 ≡ pos 0 → x1 ≡ pos 0 → v *ℤ ((x0 *ℤ (y *ℤ z)) *ℤ (pos 2 *ℤ g +ℤ h) +ℤ (x1 *ℤ (y *ℤ z)) *ℤ (g +ℤ pos 2 *ℤ h)) ≡ pos 0
cs_x v g h x0 x1 y z e0 e1 = rw (e0, e1) (by_reading {atoms = v ∷ g ∷ h ∷ y ∷ z ∷ []} (search reading depth 60 fits 100000) (search reading depth 60 fits 100000) refl)

cs_y : (v g h x0 x1 y z : ℤ) → y ≡ pos 0 → v *ℤ ((x0 *ℤ (y *ℤ z)) *ℤ (pos 2 *ℤ g +ℤ h) +ℤ (x1 *ℤ (y *ℤ z)) *ℤ (g +ℤ pos 2 *ℤ h)) ≡ pos 0
cs_y v g h x0 x1 y z e0 = rw (e0) (by_reading {atoms = v ∷ g ∷ h ∷ x0 ∷ x1 ∷ z ∷ []} (search reading depth 60 fits 100000) (search reading depth 60 fits 100000) refl)

cs_z : (v g h x0 x1 y z : ℤ) → z ≡ pos 0 → v *ℤ ((x0 *ℤ (y *ℤ z)) *ℤ (pos 2 *ℤ g +ℤ h) +ℤ (x1 *ℤ (y *ℤ z)) *ℤ (g +ℤ pos 2 *ℤ h)) ≡ pos 0
cs_z v g h x0 x1 y z e0 = rw (e0) (by_reading {atoms = v ∷ g ∷ h ∷ x0 ∷ x1 ∷ y ∷ []} (search reading depth 60 fits 100000) (search reading depth 60 fits 100000) refl)

cr_x : (v x0 x1 y z : ℤ) → x0 ≡ pos 0 → x1 ≡ pos 0 → v *ℤ ((x0 *ℤ (y *ℤ z)) *ℤ (x0 *ℤ (y *ℤ z)) +ℤ (x0 *ℤ (y *ℤ z)) *ℤ (x1 *ℤ (y *ℤ z)) +ℤ (x1 *ℤ (y *ℤ z)) *ℤ (x1 *ℤ (y *ℤ z))) ≡ pos 0
cr_x v x0 x1 y z e0 e1 = rw (e0, e1) (by_reading {atoms = v ∷ y ∷ z ∷ []} (search reading depth 60 fits 100000) (search reading depth 60 fits 100000) refl)

cr_y : (v x0 x1 y z : ℤ) → y ≡ pos 0 → v *ℤ ((x0 *ℤ (y *ℤ z)) *ℤ (x0 *ℤ (y *ℤ z)) +ℤ (x0 *ℤ (y *ℤ z)) *ℤ (x1 *ℤ (y *ℤ z)) +ℤ (x1 *ℤ (y *ℤ z)) *ℤ (x1 *ℤ (y *ℤ z))) ≡ pos 0
cr_y v x0 x1 y z e0 = rw (e0) (by_reading {atoms = v ∷ x0 ∷ x1 ∷ z ∷ []} (search reading depth 60 fits 100000) (search reading depth 60 fits 100000) refl)

cr_z : (v x0 x1 y z : ℤ) → z ≡ pos 0 → v *ℤ ((x0 *ℤ (y *ℤ z)) *ℤ (x0 *ℤ (y *ℤ z)) +ℤ (x0 *ℤ (y *ℤ z)) *ℤ (x1 *ℤ (y *ℤ z)) +ℤ (x1 *ℤ (y *ℤ z)) *ℤ (x1 *ℤ (y *ℤ z))) ≡ pos 0
cr_z v x0 x1 y z e0 = rw (e0) (by_reading {atoms = v ∷ x0 ∷ x1 ∷ y ∷ []} (search reading depth 60 fits 100000) (search reading depth 60 fits 100000) refl)

fs_x : (v e g x0 y z : ℤ) → x0 ≡ pos 0 → v *ℤ (pos 2 *ℤ ((x0 *ℤ (y *ℤ z)) *ℤ g)) +ℤ e *ℤ (x0 *ℤ (y *ℤ z)) ≡ pos 0
fs_x v e g x0 y z e0 = rw (e0) (by_reading {atoms = v ∷ e ∷ g ∷ y ∷ z ∷ []} (search reading depth 60 fits 100000) (search reading depth 60 fits 100000) refl)

fs_y : (v e g x0 y z : ℤ) → y ≡ pos 0 → v *ℤ (pos 2 *ℤ ((x0 *ℤ (y *ℤ z)) *ℤ g)) +ℤ e *ℤ (x0 *ℤ (y *ℤ z)) ≡ pos 0
fs_y v e g x0 y z e0 = rw (e0) (by_reading {atoms = v ∷ e ∷ g ∷ x0 ∷ z ∷ []} (search reading depth 60 fits 100000) (search reading depth 60 fits 100000) refl)

fs_z : (v e g x0 y z : ℤ) → z ≡ pos 0 → v *ℤ (pos 2 *ℤ ((x0 *ℤ (y *ℤ z)) *ℤ g)) +ℤ e *ℤ (x0 *ℤ (y *ℤ z)) ≡ pos 0
fs_z v e g x0 y z e0 = rw (e0) (by_reading {atoms = v ∷ e ∷ g ∷ x0 ∷ y ∷ []} (search reading depth 60 fits 100000) (search reading depth 60 fits 100000) refl)

fr_x : (v x0 y z : ℤ) → x0 ≡ pos 0 → v *ℤ ((x0 *ℤ (y *ℤ z)) *ℤ (x0 *ℤ (y *ℤ z))) ≡ pos 0
fr_x v x0 y z e0 = rw (e0) (by_reading {atoms = v ∷ y ∷ z ∷ []} (search reading depth 60 fits 100000) (search reading depth 60 fits 100000) refl)

fr_y : (v x0 y z : ℤ) → y ≡ pos 0 → v *ℤ ((x0 *ℤ (y *ℤ z)) *ℤ (x0 *ℤ (y *ℤ z))) ≡ pos 0
fr_y v x0 y z e0 = rw (e0) (by_reading {atoms = v ∷ x0 ∷ z ∷ []} (search reading depth 60 fits 100000) (search reading depth 60 fits 100000) refl)

fr_z : (v x0 y z : ℤ) → z ≡ pos 0 → v *ℤ ((x0 *ℤ (y *ℤ z)) *ℤ (x0 *ℤ (y *ℤ z))) ≡ pos 0
fr_z v x0 y z e0 = rw (e0) (by_reading {atoms = v ∷ x0 ∷ y ∷ []} (search reading depth 60 fits 100000) (search reading depth 60 fits 100000) refl)

cs_above : (v g h x0 x1 y z : ℤ) → x0 ≡ pos 1 → x1 ≡ pos 0 → y ≡ pos 1 → z ≡ pos 1 → v *ℤ ((x0 *ℤ (y *ℤ z)) *ℤ (pos 2 *ℤ g +ℤ h) +ℤ (x1 *ℤ (y *ℤ z)) *ℤ (g +ℤ pos 2 *ℤ h)) ≡ v *ℤ (pos 2 *ℤ g +ℤ h)
cs_above v g h x0 x1 y z e0 e1 e2 e3 = rw (e0, e1, e2, e3) (by_reading {atoms = v ∷ g ∷ h ∷ []} (search reading depth 60 fits 100000) (search reading depth 60 fits 100000) refl)

cs_below : (v g h x0 x1 y z : ℤ) → x0 ≡ pos 0 → x1 ≡ pos 1 → y ≡ pos 1 → z ≡ pos 1 → v *ℤ ((x0 *ℤ (y *ℤ z)) *ℤ (pos 2 *ℤ g +ℤ h) +ℤ (x1 *ℤ (y *ℤ z)) *ℤ (g +ℤ pos 2 *ℤ h)) ≡ v *ℤ (pos 2 *ℤ h +ℤ g)
cs_below v g h x0 x1 y z e0 e1 e2 e3 = rw (e0, e1, e2, e3) (by_reading {atoms = v ∷ g ∷ h ∷ []} (search reading depth 60 fits 100000) (search reading depth 60 fits 100000) refl)

cr_above : (v x0 x1 y z : ℤ) → x0 ≡ pos 1 → x1 ≡ pos 0 → y ≡ pos 1 → z ≡ pos 1 → v *ℤ ((x0 *ℤ (y *ℤ z)) *ℤ (x0 *ℤ (y *ℤ z)) +ℤ (x0 *ℤ (y *ℤ z)) *ℤ (x1 *ℤ (y *ℤ z)) +ℤ (x1 *ℤ (y *ℤ z)) *ℤ (x1 *ℤ (y *ℤ z))) ≡ v
cr_above v x0 x1 y z e0 e1 e2 e3 = rw (e0, e1, e2, e3) (by_reading {atoms = v ∷ []} (search reading depth 60 fits 100000) (search reading depth 60 fits 100000) refl)

cr_below : (v x0 x1 y z : ℤ) → x0 ≡ pos 0 → x1 ≡ pos 1 → y ≡ pos 1 → z ≡ pos 1 → v *ℤ ((x0 *ℤ (y *ℤ z)) *ℤ (x0 *ℤ (y *ℤ z)) +ℤ (x0 *ℤ (y *ℤ z)) *ℤ (x1 *ℤ (y *ℤ z)) +ℤ (x1 *ℤ (y *ℤ z)) *ℤ (x1 *ℤ (y *ℤ z))) ≡ v
cr_below v x0 x1 y z e0 e1 e2 e3 = rw (e0, e1, e2, e3) (by_reading {atoms = v ∷ []} (search reading depth 60 fits 100000) (search reading depth 60 fits 100000) refl)

fs_at : (v e g x0 y z : ℤ) → x0 ≡ pos 1 → y ≡ pos 1 → z ≡ pos 1 → v *ℤ (pos 2 *ℤ ((x0 *ℤ (y *ℤ z)) *ℤ g)) +ℤ e *ℤ (x0 *ℤ (y *ℤ z)) ≡ pos 2 *ℤ (v *ℤ g) +ℤ e
fs_at v e g x0 y z e0 e1 e2 = rw (e0, e1, e2) (by_reading {atoms = v ∷ e ∷ g ∷ []} (search reading depth 60 fits 100000) (search reading depth 60 fits 100000) refl)

fr_at : (v x0 y z : ℤ) → x0 ≡ pos 1 → y ≡ pos 1 → z ≡ pos 1 → v *ℤ ((x0 *ℤ (y *ℤ z)) *ℤ (x0 *ℤ (y *ℤ z))) ≡ v
fr_at v x0 y z e0 e1 e2 = rw (e0, e1, e2) (by_reading {atoms = v ∷ []} (search reading depth 60 fits 100000) (search reading depth 60 fits 100000) refl)

next_other : (q : ℕ) → suc q ≢ q
next_other q e = absurd (omega (arith, e))

own_other : (q : ℕ) → q ≢ suc q
own_other q e = absurd (omega (arith, e))

module _ (v s e g : Spread3) (p q r : ℕ) where
  pub slope_on_line : IsOnLine p q r (flow_cell_slope v g (only_at p q r)) (flow_face_slope s e g (only_at p q r))
  slope_on_line = record {
    cell_i = λ i j k a. cs_x (v i j k) (g i j k) (g (suc i) j k) (bit i p) (bit (suc i) p) (bit j q) (bit k r) (bit_other i p a.0) (bit_other (suc i) p a.1);
    face_i = λ i j k a. fs_x (s i j k) (e i j k) (g i j k) (bit i p) (bit j q) (bit k r) (bit_other i p a);
    cell_j = λ i j k a. cs_y (v i j k) (g i j k) (g (suc i) j k) (bit i p) (bit (suc i) p) (bit j q) (bit k r) (bit_other j q a);
    face_j = λ i j k a. fs_y (s i j k) (e i j k) (g i j k) (bit i p) (bit j q) (bit k r) (bit_other j q a);
    cell_k = λ i j k a. cs_z (v i j k) (g i j k) (g (suc i) j k) (bit i p) (bit (suc i) p) (bit j q) (bit k r) (bit_other k r a);
    face_k = λ i j k a. fs_z (s i j k) (e i j k) (g i j k) (bit i p) (bit j q) (bit k r) (bit_other k r a);
  }

  pub rate_on_line : IsOnLine p q r (flow_cell v (only_at p q r)) (flow_face_rate s (only_at p q r))
  rate_on_line = record {
    cell_i = λ i j k a. cr_x (v i j k) (bit i p) (bit (suc i) p) (bit j q) (bit k r) (bit_other i p a.0) (bit_other (suc i) p a.1);
    face_i = λ i j k a. fr_x (s i j k) (bit i p) (bit j q) (bit k r) (bit_other i p a);
    cell_j = λ i j k a. cr_y (v i j k) (bit i p) (bit (suc i) p) (bit j q) (bit k r) (bit_other j q a);
    face_j = λ i j k a. fr_y (s i j k) (bit i p) (bit j q) (bit k r) (bit_other j q a);
    cell_k = λ i j k a. cr_z (v i j k) (bit i p) (bit (suc i) p) (bit j q) (bit k r) (bit_other k r a);
    face_k = λ i j k a. fr_z (s i j k) (bit i p) (bit j q) (bit k r) (bit_other k r a);
  }

  pub slope_at : flow_face_slope s e g (only_at p q r) p q r ≡ pos 2 *ℤ (s p q r *ℤ g p q r) +ℤ e p q r
  slope_at = fs_at (s p q r) (e p q r) (g p q r) (bit p p) (bit q q) (bit r r) (bit_same p) (bit_same q) (bit_same r)

  pub rate_at : flow_face_rate s (only_at p q r) p q r ≡ s p q r
  rate_at = fr_at (s p q r) (bit p p) (bit q q) (bit r r) (bit_same p) (bit_same q) (bit_same r)

  pub slope_above : flow_cell_slope v g (only_at p q r) p q r ≡ v p q r *ℤ (pos 2 *ℤ g p q r +ℤ g (suc p) q r)
  slope_above = cs_above (v p q r) (g p q r) (g (suc p) q r) (bit p p) (bit (suc p) p) (bit q q) (bit r r) (bit_same p) (bit_other (suc p) p (next_other p)) (bit_same q) (bit_same r)

  pub rate_above : flow_cell v (only_at p q r) p q r ≡ v p q r
  rate_above = cr_above (v p q r) (bit p p) (bit (suc p) p) (bit q q) (bit r r) (bit_same p) (bit_other (suc p) p (next_other p)) (bit_same q) (bit_same r)

  pub slope_below : flow_cell_slope v g (only_at (suc p) q r) p q r ≡ v p q r *ℤ (pos 2 *ℤ g (suc p) q r +ℤ g p q r)
  slope_below = cs_below (v p q r) (g p q r) (g (suc p) q r) (bit p (suc p)) (bit (suc p) (suc p)) (bit q q) (bit r r) (bit_other p (suc p) (own_other p)) (bit_same (suc p)) (bit_same q) (bit_same r)

  pub rate_below : flow_cell v (only_at (suc p) q r) p q r ≡ v p q r
  rate_below = cr_below (v p q r) (bit p (suc p)) (bit (suc p) (suc p)) (bit q q) (bit r r) (bit_other p (suc p) (own_other p)) (bit_same (suc p)) (bit_same q) (bit_same r)
