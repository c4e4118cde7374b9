-- Changes of a flux: the slope of the energy is linear in the change, the rate too for changes that share no line of cells,
-- and what both are for a flow of 1 through one face.
use mathlib.Core.Path.{◌≡◌, refl, sym, ap, ◌∙◌, subst}
use mathlib.Core.List.{[], ◌∷◌}
use Prim.Native.Nat.{ℕ, suc}
use Rattle.std.proofs.Common.{◌≢◌}
use lib.IntN.{ℤ, pos, ◌+ℤ◌, ◌*ℤ◌}
use Rattle.tb_math.proofs.ReadIntegers.{by_reading, reading}
use Rattle.tb_places.specs.declared.AxisName.{AxisName}
use Rattle.tb_places.specs.declared.AxisName.TheVariants.{X, Y, Z}
use Rattle.tb_places.specs.Places.{along}
use Rattle.tb_weighted.specs.Forms.{Spread3, axis_sum, only_at, bit}
use Rattle.tb_weighted.specs.Flows.{FlowForms, Flows3, over_flows, flow_cell, flow_cell_slope, flow_face_slope, flow_face_rate, flow_rate, flow_slope}
use Rattle.tb_weighted.specs.FlowMoves.{through}
use Rattle.tb_weighted.proofs.Local.{total_none}
use Rattle.tb_weighted.proofs.Pulls.{seen_y, seen_z}
use Rattle.tb_weighted.proofs.TwoFaces.{axis_mixed, mixed, slopes_mixed, AreApart}

abbrev pub mix_flows : ℤ → ℤ → Flows3 → Flows3 → Flows3
mix_flows c d u w a i j k = c *ℤ u a i j k +ℤ d *ℤ w a i j k

both : (a a' b b' : ℤ) → a ≡ a' → b ≡ b' → a +ℤ b ≡ a' +ℤ b'
both a a' b b' e f = rw (e, f) refl

three : (c d x y x' y' x'' y'' : ℤ) → (c *ℤ x +ℤ d *ℤ y) +ℤ (c *ℤ x' +ℤ d *ℤ y') +ℤ (c *ℤ x'' +ℤ d *ℤ y'') ≡ c *ℤ (x +ℤ x' +ℤ x'') +ℤ d *ℤ (y +ℤ y' +ℤ y'')
three c d x y x' y' x'' y'' = by_reading {atoms = c ∷ d ∷ x ∷ y ∷ x' ∷ y' ∷ x'' ∷ y'' ∷ []} (search reading depth 60 fits 100000) (search reading depth 60 fits 100000) refl

pub slope_linear : (f : FlowForms) (q : Flows3) (c d : ℤ) (u w : Flows3) → flow_slope f q (mix_flows c d u w) ≡ c *ℤ flow_slope f q u +ℤ d *ℤ flow_slope f q w
unfolding flow_slope
slope_linear f q c d u w = both _ _ _ _ (both _ _ _ _
    (slopes_mixed c d (f.cells X) (f.cells Y) (f.cells Z) (f.cell X) (f.face X) (f.source X) (along X (q X)) (along X (u X)) (along X (w X)))
    (slopes_mixed c d (f.cells Y) (f.cells X) (f.cells Z) (f.cell Y) (f.face Y) (f.source Y) (along Y (q Y)) (along Y (u Y)) (along Y (w Y))))
    (slopes_mixed c d (f.cells Z) (f.cells X) (f.cells Y) (f.cell Z) (f.face Z) (f.source Z) (along Z (q Z)) (along Z (u Z)) (along Z (w Z)))
    ∙ three c d _ _ _ _ _ _

-- ---- changes on different lines of cells
abbrev pub ShareNoLine : Spread3 → Spread3 → Type 0
ShareNoLine a b = (i i' j k : ℕ) → a i j k *ℤ b i' j k ≡ pos 0

cell_split : (c d v a0 a1 b0 b1 : ℤ) → v *ℤ ((c *ℤ a0 +ℤ d *ℤ b0) *ℤ (c *ℤ a0 +ℤ d *ℤ b0) +ℤ (c *ℤ a0 +ℤ d *ℤ b0) *ℤ (c *ℤ a1 +ℤ d *ℤ b1) +ℤ (c *ℤ a1 +ℤ d *ℤ b1) *ℤ (c *ℤ a1 +ℤ d *ℤ b1))
    ≡ ((c *ℤ c) *ℤ (v *ℤ (a0 *ℤ a0 +ℤ a0 *ℤ a1 +ℤ a1 *ℤ a1)) +ℤ (d *ℤ d) *ℤ (v *ℤ (b0 *ℤ b0 +ℤ b0 *ℤ b1 +ℤ b1 *ℤ b1)))
    +ℤ (c *ℤ d *ℤ v) *ℤ (pos 2 *ℤ (a0 *ℤ b0) +ℤ a0 *ℤ b1 +ℤ a1 *ℤ b0 +ℤ pos 2 *ℤ (a1 *ℤ b1))
cell_split c d v a0 a1 b0 b1 = by_reading {atoms = c ∷ d ∷ v ∷ a0 ∷ a1 ∷ b0 ∷ b1 ∷ []} (search reading depth 60 fits 100000) (search reading depth 60 fits 100000) refl

face_split : (c d s a b : ℤ) → s *ℤ ((c *ℤ a +ℤ d *ℤ b) *ℤ (c *ℤ a +ℤ d *ℤ b)) ≡ ((c *ℤ c) *ℤ (s *ℤ (a *ℤ a)) +ℤ (d *ℤ d) *ℤ (s *ℤ (b *ℤ b))) +ℤ (pos 2 *ℤ (c *ℤ d *ℤ s)) *ℤ (a *ℤ b)
face_split c d s a b = by_reading {atoms = c ∷ d ∷ s ∷ a ∷ b ∷ []} (search reading depth 60 fits 100000) (search reading depth 60 fits 100000) refl

four_vanish : (w z x00 x01 x10 x11 : ℤ) → x00 ≡ pos 0 → x01 ≡ pos 0 → x10 ≡ pos 0 → x11 ≡ pos 0 → w +ℤ z *ℤ (pos 2 *ℤ x00 +ℤ x01 +ℤ x10 +ℤ pos 2 *ℤ x11) ≡ w
four_vanish w z x00 x01 x10 x11 e f g h = rw (e, f, g, h) (by_reading {atoms = w ∷ z ∷ []} (search reading depth 60 fits 100000) (search reading depth 60 fits 100000) refl)

one_vanishes : (w z x : ℤ) → x ≡ pos 0 → w +ℤ z *ℤ x ≡ w
one_vanishes w z x e = rw e (by_reading {atoms = w ∷ z ∷ []} (search reading depth 60 fits 100000) (search reading depth 60 fits 100000) refl)

rates_apart : (c d : ℤ) (n m p : ℕ) (v s a b : Spread3) → ShareNoLine a b → axis_sum n m p (flow_cell v (mixed c d a b)) (flow_face_rate s (mixed c d a b))
    ≡ (c *ℤ c) *ℤ axis_sum n m p (flow_cell v a) (flow_face_rate s a) +ℤ (d *ℤ d) *ℤ axis_sum n m p (flow_cell v b) (flow_face_rate s b)
rates_apart c d n m p v s a b h = axis_mixed (c *ℤ c) (d *ℤ d) n m p _ _ (flow_cell v a) (flow_face_rate s a) (flow_cell v b) (flow_face_rate s b)
    (λ i j k. cell_split c d (v i j k) (a i j k) (a (suc i) j k) (b i j k) (b (suc i) j k)
    ∙ four_vanish _ _ (a i j k *ℤ b i j k) (a i j k *ℤ b (suc i) j k) (a (suc i) j k *ℤ b i j k) (a (suc i) j k *ℤ b (suc i) j k) (h i i j k) (h i (suc i) j k) (h (suc i) i j k) (h (suc i) (suc i) j k))
    (λ i j k. face_split c d (s i j k) (a i j k) (b i j k) ∙ one_vanishes _ _ (a i j k *ℤ b i j k) (h i i j k))

pub rate_apart : (f : FlowForms) (c d : ℤ) (u w : Flows3) → ((a : AxisName) → ShareNoLine (along a (u a)) (along a (w a))) → flow_rate f (mix_flows c d u w) ≡ (c *ℤ c) *ℤ flow_rate f u +ℤ (d *ℤ d) *ℤ flow_rate f w
unfolding flow_rate
rate_apart f c d u w h = both _ _ _ _ (both _ _ _ _
    (rates_apart c d (f.cells X) (f.cells Y) (f.cells Z) (f.cell X) (f.face X) (along X (u X)) (along X (w X)) (h X))
    (rates_apart c d (f.cells Y) (f.cells X) (f.cells Z) (f.cell Y) (f.face Y) (along Y (u Y)) (along Y (w Y)) (h Y)))
    (rates_apart c d (f.cells Z) (f.cells X) (f.cells Y) (f.cell Z) (f.face Z) (along Z (u Z)) (along Z (w Z)) (h Z))
    ∙ three (c *ℤ c) (d *ℤ d) _ _ _ _ _ _

-- ---- a flow of 1 through one face
nothing_in : (v g h : ℤ) → v *ℤ (pos 0 *ℤ (pos 2 *ℤ g +ℤ h) +ℤ pos 0 *ℤ (g +ℤ pos 2 *ℤ h)) ≡ pos 0
nothing_in v g h = by_reading {atoms = v ∷ g ∷ h ∷ []} (search reading depth 60 fits 100000) (search reading depth 60 fits 100000) refl

nothing_at : (s e g : ℤ) → s *ℤ (pos 2 *ℤ (pos 0 *ℤ g)) +ℤ e *ℤ pos 0 ≡ pos 0
nothing_at s e g = by_reading {atoms = s ∷ e ∷ g ∷ []} (search reading depth 60 fits 100000) (search reading depth 60 fits 100000) refl

times_none : (s : ℤ) → s *ℤ pos 0 ≡ pos 0
times_none s = by_reading {atoms = s ∷ []} (search reading) (search reading) refl

axis_none : (n m p : ℕ) (cell face : Spread3) → ((i j k : ℕ) → cell i j k ≡ pos 0) → ((i j k : ℕ) → face i j k ≡ pos 0) → axis_sum n m p cell face ≡ pos 0
unfolding axis_sum
axis_none n m p cell face e f = total_none p _ (λ k c. total_none m _ (λ j b. both _ _ _ _ (total_none n _ (λ i a. e i j k)) (total_none (suc n) _ (λ i a. f i j k))))

abbrev none3 : Spread3
none3 i j k = pos 0

slope_none : (n m p : ℕ) (v s e g : Spread3) → axis_sum n m p (flow_cell_slope v g none3) (flow_face_slope s e g none3) ≡ pos 0
slope_none n m p v s e g = axis_none n m p _ _ (λ i j k. nothing_in (v i j k) (g i j k) (g (suc i) j k)) (λ i j k. nothing_at (s i j k) (e i j k) (g i j k))

rate_none : (n m p : ℕ) (v s : Spread3) → axis_sum n m p (flow_cell v none3) (flow_face_rate s none3) ≡ pos 0
rate_none n m p v s = axis_none n m p _ _ (λ i j k. times_none (v i j k)) (λ i j k. times_none (s i j k))

alone_x : (x y z : ℤ) → y ≡ pos 0 → z ≡ pos 0 → x +ℤ y +ℤ z ≡ x
alone_x x y z e f = rw (e, f) (by_reading {atoms = x ∷ []} (search reading) (search reading) refl)

alone_y : (x y z : ℤ) → x ≡ pos 0 → z ≡ pos 0 → x +ℤ y +ℤ z ≡ y
alone_y x y z e f = rw (e, f) (by_reading {atoms = y ∷ []} (search reading) (search reading) refl)

alone_z : (x y z : ℤ) → x ≡ pos 0 → y ≡ pos 0 → x +ℤ y +ℤ z ≡ z
alone_z x y z e f = rw (e, f) (by_reading {atoms = z ∷ []} (search reading) (search reading) refl)

abbrev pub slope_of_one : FlowForms → Flows3 → AxisName → ℕ → ℕ → ℕ → ℤ
slope_of_one f q b p j k = over_flows f b (flow_cell_slope (f.cell b) (along b (q b)) (only_at p j k)) (flow_face_slope (f.face b) (f.source b) (along b (q b)) (only_at p j k))

abbrev pub rate_of_one : FlowForms → AxisName → ℕ → ℕ → ℕ → ℤ
rate_of_one f b p j k = over_flows f b (flow_cell (f.cell b) (only_at p j k)) (flow_face_rate (f.face b) (only_at p j k))

abbrev slope_along : FlowForms → Flows3 → AxisName → Spread3 → ℤ
slope_along f q b u = over_flows f b (flow_cell_slope (f.cell b) (along b (q b)) u) (flow_face_slope (f.face b) (f.source b) (along b (q b)) u)

abbrev rate_along : FlowForms → AxisName → Spread3 → ℤ
rate_along f b u = over_flows f b (flow_cell (f.cell b) u) (flow_face_rate (f.face b) u)

pub slope_through : (f : FlowForms) (q : Flows3) (b : AxisName) (p j k : ℕ) → flow_slope f q (through b p j k) ≡ slope_of_one f q b p j k
unfolding flow_slope
slope_through f q X p j k = alone_x _ _ _ (slope_none (f.cells Y) (f.cells X) (f.cells Z) (f.cell Y) (f.face Y) (f.source Y) (along Y (q Y))) (slope_none (f.cells Z) (f.cells X) (f.cells Y) (f.cell Z) (f.face Z) (f.source Z) (along Z (q Z)))
slope_through f q Y p j k = alone_y _ _ _ (slope_none (f.cells X) (f.cells Y) (f.cells Z) (f.cell X) (f.face X) (f.source X) (along X (q X))) (slope_none (f.cells Z) (f.cells X) (f.cells Y) (f.cell Z) (f.face Z) (f.source Z) (along Z (q Z))) ∙ ap (slope_along f q Y) (sym (seen_y j p k))
slope_through f q Z p j k = alone_z _ _ _ (slope_none (f.cells X) (f.cells Y) (f.cells Z) (f.cell X) (f.face X) (f.source X) (along X (q X))) (slope_none (f.cells Y) (f.cells X) (f.cells Z) (f.cell Y) (f.face Y) (f.source Y) (along Y (q Y))) ∙ ap (slope_along f q Z) (sym (seen_z j k p))

pub rate_through : (f : FlowForms) (b : AxisName) (p j k : ℕ) → flow_rate f (through b p j k) ≡ rate_of_one f b p j k
unfolding flow_rate
rate_through f X p j k = alone_x _ _ _ (rate_none (f.cells Y) (f.cells X) (f.cells Z) (f.cell Y) (f.face Y)) (rate_none (f.cells Z) (f.cells X) (f.cells Y) (f.cell Z) (f.face Z))
rate_through f Y p j k = alone_y _ _ _ (rate_none (f.cells X) (f.cells Y) (f.cells Z) (f.cell X) (f.face X)) (rate_none (f.cells Z) (f.cells X) (f.cells Y) (f.cell Z) (f.face Z)) ∙ ap (rate_along f Y) (sym (seen_y j p k))
rate_through f Z p j k = alone_z _ _ _ (rate_none (f.cells X) (f.cells Y) (f.cells Z) (f.cell X) (f.face X)) (rate_none (f.cells Y) (f.cells X) (f.cells Z) (f.cell Y) (f.face Y)) ∙ ap (rate_along f Z) (sym (seen_z j k p))

-- ---- faces that share no line of cells
product_none : (x w x' w' : ℤ) → w *ℤ w' ≡ pos 0 → (x *ℤ w) *ℤ (x' *ℤ w') ≡ pos 0
product_none x w x' w' e = by_reading {atoms = x ∷ w ∷ x' ∷ w' ∷ []} {b = (x *ℤ x') *ℤ (w *ℤ w')} (search reading depth 60 fits 100000) (search reading depth 60 fits 100000) refl ∙ ap (λ (z : ℤ). (x *ℤ x') *ℤ z) e ∙ times_none (x *ℤ x')

lines_apart : (p j k p' j' k' : ℕ) → AreApart j k j' k' → ShareNoLine (only_at p j k) (only_at p' j' k')
lines_apart p j k p' j' k' h i i' y z = product_none (bit i p) (bit y j *ℤ bit z k) (bit i' p') (bit y j' *ℤ bit z k') (h y z)

pub faces_apart : (b : AxisName) (p j k p' j' k' : ℕ) → AreApart j k j' k' → (a : AxisName) → ShareNoLine (along a (through b p j k a)) (along a (through b p' j' k' a))
faces_apart X p j k p' j' k' h X = lines_apart p j k p' j' k' h
faces_apart X p j k p' j' k' h Y = λ i i' y z. refl
faces_apart X p j k p' j' k' h Z = λ i i' y z. refl
faces_apart Y p j k p' j' k' h X = λ i i' y z. refl
faces_apart Y p j k p' j' k' h Y = subst (λ (u : Spread3). ShareNoLine u (along Y (only_at j' p' k'))) (seen_y j p k) (subst (λ (u : Spread3). ShareNoLine (only_at p j k) u) (seen_y j' p' k') (lines_apart p j k p' j' k' h))
faces_apart Y p j k p' j' k' h Z = λ i i' y z. refl
faces_apart Z p j k p' j' k' h X = λ i i' y z. refl
faces_apart Z p j k p' j' k' h Y = λ i i' y z. refl
faces_apart Z p j k p' j' k' h Z = subst (λ (u : Spread3). ShareNoLine u (along Z (only_at j' k' p'))) (seen_z j k p) (subst (λ (u : Spread3). ShareNoLine (only_at p j k) u) (seen_z j' k' p') (lines_apart p j k p' j' k' h))

none_left : (c d z : ℤ) → (c *ℤ pos 0 +ℤ d *ℤ pos 0) *ℤ z ≡ pos 0
none_left c d z = by_reading {atoms = c ∷ d ∷ z ∷ []} (search reading depth 60 fits 100000) (search reading depth 60 fits 100000) refl

none_right : (c d z : ℤ) → z *ℤ (c *ℤ pos 0 +ℤ d *ℤ pos 0) ≡ pos 0
none_right c d z = by_reading {atoms = c ∷ d ∷ z ∷ []} (search reading depth 60 fits 100000) (search reading depth 60 fits 100000) refl

-- two faces across one axis, and two across another
pub axes_apart : (b b' : AxisName) → b ≢ b' → (c d c' d' : ℤ) (p j k r s t p' j' k' r' s' t' : ℕ) (a : AxisName)
    → ShareNoLine (along a (mix_flows c d (through b p j k) (through b r s t) a)) (along a (mix_flows c' d' (through b' p' j' k') (through b' r' s' t') a))
axes_apart X X h c d c' d' p j k r s t p' j' k' r' s' t' X = absurd (h refl)
axes_apart X Y h c d c' d' p j k r s t p' j' k' r' s' t' X = λ i i' y z. none_right c' d' (along X (mix_flows c d (through X p j k) (through X r s t) X) i y z)
axes_apart X Z h c d c' d' p j k r s t p' j' k' r' s' t' X = λ i i' y z. none_right c' d' (along X (mix_flows c d (through X p j k) (through X r s t) X) i y z)
axes_apart Y b' h c d c' d' p j k r s t p' j' k' r' s' t' X = λ i i' y z. none_left c d (along X (mix_flows c' d' (through b' p' j' k') (through b' r' s' t') X) i' y z)
axes_apart Z b' h c d c' d' p j k r s t p' j' k' r' s' t' X = λ i i' y z. none_left c d (along X (mix_flows c' d' (through b' p' j' k') (through b' r' s' t') X) i' y z)
axes_apart X b' h c d c' d' p j k r s t p' j' k' r' s' t' Y = λ i i' y z. none_left c d (along Y (mix_flows c' d' (through b' p' j' k') (through b' r' s' t') Y) i' y z)
axes_apart Y X h c d c' d' p j k r s t p' j' k' r' s' t' Y = λ i i' y z. none_right c' d' (along Y (mix_flows c d (through Y p j k) (through Y r s t) Y) i y z)
axes_apart Y Y h c d c' d' p j k r s t p' j' k' r' s' t' Y = absurd (h refl)
axes_apart Y Z h c d c' d' p j k r s t p' j' k' r' s' t' Y = λ i i' y z. none_right c' d' (along Y (mix_flows c d (through Y p j k) (through Y r s t) Y) i y z)
axes_apart Z b' h c d c' d' p j k r s t p' j' k' r' s' t' Y = λ i i' y z. none_left c d (along Y (mix_flows c' d' (through b' p' j' k') (through b' r' s' t') Y) i' y z)
axes_apart X b' h c d c' d' p j k r s t p' j' k' r' s' t' Z = λ i i' y z. none_left c d (along Z (mix_flows c' d' (through b' p' j' k') (through b' r' s' t') Z) i' y z)
axes_apart Y b' h c d c' d' p j k r s t p' j' k' r' s' t' Z = λ i i' y z. none_left c d (along Z (mix_flows c' d' (through b' p' j' k') (through b' r' s' t') Z) i' y z)
axes_apart Z X h c d c' d' p j k r s t p' j' k' r' s' t' Z = λ i i' y z. none_right c' d' (along Z (mix_flows c d (through Z p j k) (through Z r s t) Z) i y z)
axes_apart Z Y h c d c' d' p j k r s t p' j' k' r' s' t' Z = λ i i' y z. none_right c' d' (along Z (mix_flows c d (through Z p j k) (through Z r s t) Z) i y z)
axes_apart Z Z h c d c' d' p j k r s t p' j' k' r' s' t' Z = absurd (h refl)
