-- What the code computes at a cell or a face next to a node is that cell's part of the whole sums.
use mathlib.Core.Path.{◌≡◌, refl, sym, ap, ◌∙◌, subst}
use mathlib.Core.Bool.{Bool}
use Prim.Native.Nat.{ℕ, zero, suc, ◌+◌, ◌-◌, ◌<◌, ◌≤◌}
use native.Mathlib.Omega.{arith}
use Rattle.std.proofs.Common.{◌≢◌, cond, if◌then◌else◌}
use Rattle.std.proofs.lemmas.Int.{ints}
use Rattle.std.proofs.lemmas.Bool.{lt-ltb}
use lib.IntN.{ℤ, pos, ◌+ℤ◌, ◌-ℤ◌, ◌*ℤ◌}
use Rattle.tb_weighted.specs.Forms.Beside.{from_low, from_high}
use Rattle.tb_places.specs.declared.AxisName.{AxisName}
use Rattle.tb_places.specs.declared.AxisName.TheVariants.{X, Y, Z}
use Rattle.tb_places.specs.Places.{along, second, third}
use Rattle.tb_weighted.proofs.Around.{axis_around, rate_near, slope_near}
use lib.IntN.{*ℤ_comm}
use Rattle.tb_math.specs.Integers.{mul_assoc}
use Rattle.tb_weighted.specs.Forms.{Forms, over_axis, axis_rate, axis_slope, form_rate, form_slope, bit, axis_near, Spread3, only_at, cell_part, cell_slope, face_slope, face_rate, stencil, Beside, before, behind}
use Rattle.tb_weighted.specs.Flows.{FlowForms, over_flows, flow_cell, flow_cell_slope, flow_face_slope, flow_face_rate}
use Rattle.tb_weighted.specs.Forms.{line_near}
use Rattle.tb_weighted.proofs.FlowLaws as flow
use Rattle.tb_weighted.proofs.Touching.{above_slope, above_rate, below_slope, below_rate}

-- the code's product and the definition's
same_product : (x v w d e : ℤ) → x ≡ v *ℤ d → v ≡ w → d ≡ e → x ≡ w *ℤ e
same_product x v w d e h k l = h ∙ ap (λ (z : ℤ). z *ℤ d) k ∙ ap (λ (z : ℤ). w *ℤ z) l

less : (p : ℕ) → suc p - 1 ≡ p
less p = omega arith

more : (p : ℕ) → p + 1 ≡ suc p
more p = omega arith

differ : (d h s a b : ℤ) → d ≡ h -ℤ s → h ≡ a → s ≡ b → d ≡ a -ℤ b
differ d h s a b e f g = e ∙ ap (λ (z : ℤ). z -ℤ s) f ∙ ap (λ (z : ℤ). a -ℤ z) g

module _ (w g : Spread3) (q j q' r k r' : ℕ) (on_q : Beside q j q') (on_r : Beside r k r') where
  abbrev at : ℕ → ℤ
  at i = stencil g i q r q' r'

  pub pulled_above : (n p : ℕ) (x v d h s : ℤ) → p < n → x ≡ v *ℤ d → v ≡ w p j k → d ≡ h -ℤ s → h ≡ at p → s ≡ at (p + 1) → x ≡ behind (λ i. cell_slope w g (only_at p q r) i j k) n p
  pulled_above n p x v d h s l e f m a b =
      same_product x v (w p j k) d (at p -ℤ at (suc p)) e f (differ d h s (at p) (at (suc p)) m a (b ∙ ap at (more p)))
      ∙ sym (above_slope w w g g p q j q' r k r' on_q on_r)
      ∙ ap (λ (b : Bool). cond b (cell_slope w g (only_at p q r) p j k) (pos 0)) (sym (lt-ltb p n l))

  pub rated_above : (n p : ℕ) (x v : ℤ) → p < n → x ≡ pos 4 *ℤ v → v ≡ w p j k → x ≡ behind (λ i. cell_part w (only_at p q r) i j k) n p
  rated_above n p x v l e f =
      e ∙ ap (λ (z : ℤ). pos 4 *ℤ z) f ∙ sym (above_rate w w g g p q j q' r k r' on_q on_r)
      ∙ ap (λ (b : Bool). cond b (cell_part w (only_at p q r) p j k) (pos 0)) (sym (lt-ltb p n l))

  pub pulled_below : (p : ℕ) (x v d h s : ℤ) → p ≢ 0 → x ≡ v *ℤ d → v ≡ w (p - 1) j k → d ≡ h -ℤ s → h ≡ at p → s ≡ at (p - 1) → x ≡ before (λ i. cell_slope w g (only_at p q r) i j k) p
  pulled_below zero x v d h s l e f m a b = absurd (l refl)
  pulled_below (suc p) x v d h s l e f m a b =
      same_product x v (w p j k) d (at (suc p) -ℤ at p) e (f ∙ ap (λ (i : ℕ). w i j k) (less p)) (differ d h s (at (suc p)) (at p) m a (b ∙ ap at (less p)))
      ∙ sym (below_slope w w g g p q j q' r k r' on_q on_r)

  pub rated_below : (p : ℕ) (x v : ℤ) → p ≢ 0 → x ≡ pos 4 *ℤ v → v ≡ w (p - 1) j k → x ≡ before (λ i. cell_part w (only_at p q r) i j k) p
  rated_below zero x v l e f = absurd (l refl)
  rated_below (suc p) x v l e f =
      e ∙ ap (λ (z : ℤ). pos 4 *ℤ z) (f ∙ ap (λ (i : ℕ). w i j k) (less p)) ∙ sym (below_rate w w g g p q j q' r k r' on_q on_r)

-- a face, whose values are taken from 10⁸ or from 0
pub leveled : (inside flag : Bool) (x v s d h : ℤ) → x ≡ v *ℤ d → v ≡ s → flag ≡ inside → d ≡ h -ℤ pos 18 *ℤ (if flag then pos 100000000 else pos 0) → x ≡ s *ℤ (h -ℤ pos 18 *ℤ (if inside then pos 100000000 else pos 0))
leveled inside flag x v s d h e f b g = same_product x v s d _ e f (g ∙ ap (λ (b : Bool). h -ℤ pos 18 *ℤ (if b then pos 100000000 else pos 0)) b)

-- ---- the lines and layers round a node
pub beside_below : (j : ℕ) → j ≢ 0 → Beside j (j - 1) (j - 1)
beside_below zero h = absurd (h refl)
beside_below (suc j) h = subst (λ (n : ℕ). Beside (suc j) n n) (sym (less j)) (from_high j)

pub beside_above : (j : ℕ) → Beside j j (j + 1)
beside_above j = subst (λ (n : ℕ). Beside j j n) (sym (more j)) (from_low j)

pub as_before : (f : ℕ → ℤ) (j : ℕ) (x : ℤ) → j ≢ 0 → x ≡ f (j - 1) → x ≡ before f j
as_before f zero x h e = absurd (h refl)
as_before f (suc j) x h e = e ∙ ap f (less j)

pub as_behind : (f : ℕ → ℤ) (n j : ℕ) (x : ℤ) → j < n → x ≡ f j → x ≡ behind f n j
as_behind f n j x h e = e ∙ ap (λ (b : Bool). cond b (f j) (pos 0)) (sym (lt-ltb j n h))

pub sum_of : (r x y a b : ℤ) → r ≡ x +ℤ y → x ≡ a → y ≡ b → r ≡ a +ℤ b
sum_of r x y a b e f g = omega (arith, ints)

-- an axis' whole sums
pub axis_rates : (f : Forms) (a : AxisName) (p q r : ℕ) → p ≤ f.cells a → q ≤ f.cells (second a) → r ≤ f.cells (third a)
    → over_axis f a (cell_part (f.cell a) (only_at p q r)) (face_rate (f.face a) (only_at p q r))
    ≡ axis_near (f.cells a) (f.cells (second a)) (f.cells (third a)) (cell_part (f.cell a) (only_at p q r)) (face_rate (f.face a) (only_at p q r)) p q r
axis_rates f a p q r hp hq hr = axis_around (f.cells a) (f.cells (second a)) (f.cells (third a)) p q r _ _ hp hq hr (rate_near (f.cell a) (f.face a) (f.level a) (f.level a) p q r)

pub axis_slopes : (f : Forms) (g : Spread3) (a : AxisName) (p q r : ℕ) → p ≤ f.cells a → q ≤ f.cells (second a) → r ≤ f.cells (third a)
    → over_axis f a (cell_slope (f.cell a) g (only_at p q r)) (face_slope (f.face a) (f.level a) g (only_at p q r))
    ≡ axis_near (f.cells a) (f.cells (second a)) (f.cells (third a)) (cell_slope (f.cell a) g (only_at p q r)) (face_slope (f.face a) (f.level a) g (only_at p q r)) p q r
axis_slopes f g a p q r hp hq hr = axis_around (f.cells a) (f.cells (second a)) (f.cells (third a)) p q r _ _ hp hq hr (slope_near (f.cell a) (f.face a) (f.level a) g p q r)

-- a node's change, seen along each axis
swap : (x y z : ℤ) → x *ℤ (y *ℤ z) ≡ y *ℤ (x *ℤ z)
swap x y z = sym (mul_assoc x y z) ∙ ap (λ (t : ℤ). t *ℤ z) (*ℤ_comm x y) ∙ mul_assoc y x z

turn : (x y z : ℤ) → x *ℤ (y *ℤ z) ≡ y *ℤ (z *ℤ x)
turn x y z = *ℤ_comm x (y *ℤ z) ∙ mul_assoc y z x

pub seen_y : (i j k : ℕ) → only_at j i k ≡ along Y (only_at i j k)
seen_y i j k = λ t p q r. swap (bit p j) (bit q i) (bit r k) t

pub seen_z : (i j k : ℕ) → only_at k i j ≡ along Z (only_at i j k)
seen_z i j k = λ t p q r. turn (bit p k) (bit q i) (bit r j) t

pub whole_rate : (f : Forms) (i j k : ℕ) (x y z r s : ℤ) → s ≡ x +ℤ y → r ≡ s +ℤ z
    → x ≡ over_axis f X (cell_part (f.cell X) (only_at i j k)) (face_rate (f.face X) (only_at i j k))
    → y ≡ over_axis f Y (cell_part (f.cell Y) (only_at j i k)) (face_rate (f.face Y) (only_at j i k))
    → z ≡ over_axis f Z (cell_part (f.cell Z) (only_at k i j)) (face_rate (f.face Z) (only_at k i j))
    → r ≡ form_rate f (only_at i j k)
unfolding form_rate
whole_rate f i j k x y z r s e d ex ey ez =
    sum_of r s z (axis_rate f (only_at i j k) X +ℤ axis_rate f (only_at i j k) Y) (axis_rate f (only_at i j k) Z) d
    (sum_of s x y (axis_rate f (only_at i j k) X) (axis_rate f (only_at i j k) Y) e ex
    (ey ∙ ap (λ (u : Spread3). over_axis f Y (cell_part (f.cell Y) u) (face_rate (f.face Y) u)) (seen_y i j k)))
    (ez ∙ ap (λ (u : Spread3). over_axis f Z (cell_part (f.cell Z) u) (face_rate (f.face Z) u)) (seen_z i j k))

pub whole_slope : (f : Forms) (g : Spread3) (i j k : ℕ) (x y z r s : ℤ) → s ≡ x +ℤ y → r ≡ s +ℤ z
    → x ≡ over_axis f X (cell_slope (f.cell X) (along X g) (only_at i j k)) (face_slope (f.face X) (f.level X) (along X g) (only_at i j k))
    → y ≡ over_axis f Y (cell_slope (f.cell Y) (along Y g) (only_at j i k)) (face_slope (f.face Y) (f.level Y) (along Y g) (only_at j i k))
    → z ≡ over_axis f Z (cell_slope (f.cell Z) (along Z g) (only_at k i j)) (face_slope (f.face Z) (f.level Z) (along Z g) (only_at k i j))
    → r ≡ form_slope f g (only_at i j k)
unfolding form_slope
whole_slope f g i j k x y z r s e d ex ey ez =
    sum_of r s z (axis_slope f g (only_at i j k) X +ℤ axis_slope f g (only_at i j k) Y) (axis_slope f g (only_at i j k) Z) d
    (sum_of s x y (axis_slope f g (only_at i j k) X) (axis_slope f g (only_at i j k) Y) e ex
    (ey ∙ ap (λ (u : Spread3). over_axis f Y (cell_slope (f.cell Y) (along Y g) u) (face_slope (f.face Y) (f.level Y) (along Y g) u)) (seen_y i j k)))
    (ez ∙ ap (λ (u : Spread3). over_axis f Z (cell_slope (f.cell Z) (along Z g) u) (face_slope (f.face Z) (f.level Z) (along Z g) u)) (seen_z i j k))

-- ---- a face and the two cells on its line
module _ (v s e g : Spread3) (q r : ℕ) where
  pub flow_pulled_above : (n p : ℕ) (x w d h o : ℤ) → p < n → x ≡ w *ℤ d → w ≡ v p q r → d ≡ pos 2 *ℤ h +ℤ o → h ≡ g p q r → o ≡ g (p + 1) q r → x ≡ behind (λ i. flow_cell_slope v g (only_at p q r) i q r) n p
  flow_pulled_above n p x w d h o l a b c f k =
      same_product x w (v p q r) d (pos 2 *ℤ g p q r +ℤ g (suc p) q r) a b (c ∙ ap (λ (z : ℤ). pos 2 *ℤ z +ℤ o) f ∙ ap (λ (z : ℤ). pos 2 *ℤ g p q r +ℤ z) (k ∙ ap (λ (i : ℕ). g i q r) (more p)))
      ∙ sym (flow.slope_above v s e g p q r) ∙ ap (λ (b : Bool). cond b (flow_cell_slope v g (only_at p q r) p q r) (pos 0)) (sym (lt-ltb p n l))

  pub flow_rated_above : (n p : ℕ) (x w : ℤ) → p < n → x ≡ w → w ≡ v p q r → x ≡ behind (λ i. flow_cell v (only_at p q r) i q r) n p
  flow_rated_above n p x w l a b = a ∙ b ∙ sym (flow.rate_above v s e g p q r) ∙ ap (λ (b : Bool). cond b (flow_cell v (only_at p q r) p q r) (pos 0)) (sym (lt-ltb p n l))

  pub flow_pulled_below : (p : ℕ) (x w d h o : ℤ) → p ≢ 0 → x ≡ w *ℤ d → w ≡ v (p - 1) q r → d ≡ pos 2 *ℤ h +ℤ o → h ≡ g p q r → o ≡ g (p - 1) q r → x ≡ before (λ i. flow_cell_slope v g (only_at p q r) i q r) p
  flow_pulled_below zero x w d h o l a b c f k = absurd (l refl)
  flow_pulled_below (suc p) x w d h o l a b c f k =
      same_product x w (v p q r) d (pos 2 *ℤ g (suc p) q r +ℤ g p q r) a (b ∙ ap (λ (i : ℕ). v i q r) (less p)) (c ∙ ap (λ (z : ℤ). pos 2 *ℤ z +ℤ o) f ∙ ap (λ (z : ℤ). pos 2 *ℤ g (suc p) q r +ℤ z) (k ∙ ap (λ (i : ℕ). g i q r) (less p)))
      ∙ sym (flow.slope_below v s e g p q r)

  pub flow_rated_below : (p : ℕ) (x w : ℤ) → p ≢ 0 → x ≡ w → w ≡ v (p - 1) q r → x ≡ before (λ i. flow_cell v (only_at p q r) i q r) p
  flow_rated_below zero x w l a b = absurd (l refl)
  flow_rated_below (suc p) x w l a b = a ∙ b ∙ ap (λ (i : ℕ). v i q r) (less p) ∙ sym (flow.rate_below v s e g p q r)

pub axis_flow_rates : (f : FlowForms) (g : Spread3) (a : AxisName) (p q r : ℕ) → p ≤ f.cells a → q < f.cells (second a) → r < f.cells (third a)
    → over_flows f a (flow_cell (f.cell a) (only_at p q r)) (flow_face_rate (f.face a) (only_at p q r)) ≡ line_near (f.cells a) (flow_cell (f.cell a) (only_at p q r)) (flow_face_rate (f.face a) (only_at p q r)) p q r
axis_flow_rates f g a p q r hp hq hr = flow.axis_on_line (f.cells a) (f.cells (second a)) (f.cells (third a)) p q r _ _ hp hq hr (flow.rate_on_line (f.cell a) (f.face a) (f.source a) g p q r)

pub axis_flow_slopes : (f : FlowForms) (g : Spread3) (a : AxisName) (p q r : ℕ) → p ≤ f.cells a → q < f.cells (second a) → r < f.cells (third a)
    → over_flows f a (flow_cell_slope (f.cell a) g (only_at p q r)) (flow_face_slope (f.face a) (f.source a) g (only_at p q r)) ≡ line_near (f.cells a) (flow_cell_slope (f.cell a) g (only_at p q r)) (flow_face_slope (f.face a) (f.source a) g (only_at p q r)) p q r
axis_flow_slopes f g a p q r hp hq hr = flow.axis_on_line (f.cells a) (f.cells (second a)) (f.cells (third a)) p q r _ _ hp hq hr (flow.slope_on_line (f.cell a) (f.face a) (f.source a) g p q r)

pub flow_slope_at : (r t p s w h w' e : ℤ) → r ≡ t +ℤ s → t ≡ pos 2 *ℤ p → p ≡ w *ℤ h → w ≡ w' → s ≡ e → r ≡ pos 2 *ℤ (w' *ℤ h) +ℤ e
flow_slope_at r t p s w h w' e a b c d f = a ∙ ap (λ (z : ℤ). z +ℤ s) (b ∙ ap (λ (z : ℤ). pos 2 *ℤ z) (c ∙ ap (λ (z : ℤ). z *ℤ h) d)) ∙ ap (λ (z : ℤ). pos 2 *ℤ (w' *ℤ h) +ℤ z) f
