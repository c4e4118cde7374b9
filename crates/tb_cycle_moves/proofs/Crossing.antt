-- What one flow more through a face meets of the flows that are there: those on the far sides of the two cells beside it.
use Rattle.std.proofs.Common.{◌≡◌, refl, ap, ◌∙◌, arith, ℕ, zero, suc, ◌<◌, ◌≤◌, Bool, true, false, cond, ltb, [], ◌∷◌}
use Rattle.std.proofs.lemmas.Bool.{lt-ltb, ltb-true}
use lib.IntN.{ℤ, pos, ◌+ℤ◌, ◌*ℤ◌}
use Rattle.tb_math.proofs.ReadIntegers.{by_reading, reading}
use Rattle.tb_places.specs.declared.AxisName.{AxisName}
use Rattle.tb_places.specs.Places.{along, second, third}
use Rattle.tb_weighted.specs.Forms.{Spread3, before, behind, only_at}
use Rattle.tb_weighted.specs.Flows.{FlowForms, Flows3, flow_cell_slope}
use Rattle.tb_weighted.proofs.FlowLaws as flow
use Rattle.tb_weighted.proofs.Pulls.{axis_flow_slopes}
use Rattle.tb_cycle_moves.proofs.Directions.{crossing, no_source}

none_here : (v h o : ℤ) → h ≡ pos 0 → v *ℤ (pos 2 *ℤ h +ℤ o) ≡ v *ℤ o
none_here v h o e = rw e (by_reading {atoms = v ∷ o ∷ []} (search reading) (search reading) refl)

none_at : (s h : ℤ) → h ≡ pos 0 → pos 2 *ℤ (s *ℤ h) +ℤ pos 0 ≡ pos 0
none_at s h e = rw e (by_reading {atoms = s ∷ []} (search reading) (search reading) refl)

three : (x y z x' y' : ℤ) → x ≡ x' → y ≡ y' → z ≡ pos 0 → (x +ℤ y) +ℤ z ≡ x' +ℤ y'
three x y z x' y' e f g = rw (e, f, g) (by_reading {atoms = x' ∷ y' ∷ []} (search reading) (search reading) refl)

abbrev none3 : Spread3
none3 i j k = pos 0

module _ (v s g : Spread3) (q r : ℕ) where
  below_is : (p : ℕ) → g p q r ≡ pos 0 → before (λ h. flow_cell_slope v g (only_at p q r) h q r) p ≡ before (λ h. v h q r *ℤ g h q r) p
  below_is zero e = refl
  below_is (suc p) e = flow.slope_below v s none3 g p q r ∙ none_here (v p q r) (g (suc p) q r) (g p q r) e

  above_is : (n p : ℕ) → g p q r ≡ pos 0 → behind (λ h. flow_cell_slope v g (only_at p q r) h q r) n p ≡ behind (λ h. v h q r *ℤ g (suc h) q r) n p
  above_is n p e = ap (λ (z : ℤ). cond (ltb p n) z (pos 0)) (flow.slope_above v s none3 g p q r ∙ none_here (v p q r) (g p q r) (g (suc p) q r) e)

module _ (f : FlowForms) (u : Flows3) (a : AxisName) where
  abbrev g : Spread3
  g = along a (u a)

  pub crossing_is : (p q r : ℕ) → p ≤ f.cells a → q < f.cells (second a) → r < f.cells (third a) → g p q r ≡ pos 0 →
      crossing f u a p q r ≡ before (λ h. f.cell a h q r *ℤ g h q r) p +ℤ behind (λ h. f.cell a h q r *ℤ g (suc h) q r) (f.cells a) p
  crossing_is p q r hp hq hr e = axis_flow_slopes (no_source f) g a p q r hp hq hr
      ∙ three _ _ _ _ _ (below_is (f.cell a) (f.face a) g q r p e) (above_is (f.cell a) (f.face a) g q r (f.cells a) p e)
      (flow.slope_at (f.cell a) (f.face a) none3 g p q r ∙ none_at (f.face a p q r) (g p q r) e)

  only_first : (x y z : ℤ) → x ≡ z → y ≡ pos 0 → x +ℤ y ≡ z
  only_first x y z e h = rw (e, h) (by_reading {atoms = z ∷ []} (search reading) (search reading) refl)

  only_second : (x y z : ℤ) → x ≡ pos 0 → y ≡ z → x +ℤ y ≡ z
  only_second x y z e h = rw (e, h) (by_reading {atoms = z ∷ []} (search reading) (search reading) refl)

  none_behind : (h : ℕ → ℤ) (n p : ℕ) → (p < n → h p ≡ pos 0) → behind h n p ≡ pos 0
  none_behind h n p e = cases (ltb p n) refl
    where
      cases : (b : Bool) → ltb p n ≡ b → cond (ltb p n) (h p) (pos 0) ≡ pos 0
      cases true t = ap (λ (b : Bool). cond b (h p) (pos 0)) t ∙ e (ltb-true p n t)
      cases false t = ap (λ (b : Bool). cond b (h p) (pos 0)) t

  none_before : (h : ℕ → ℤ) (p : ℕ) → ((i : ℕ) → p ≡ suc i → h i ≡ pos 0) → before h p ≡ pos 0
  none_before h zero e = refl
  none_before h (suc i) e = e i refl

  -- at the high side of a cell, where nothing flows on the far side of the cell beyond
  pub crossing_high : (i q r : ℕ) → i < f.cells a → q < f.cells (second a) → r < f.cells (third a) → g (suc i) q r ≡ pos 0 →
      (suc i < f.cells a → f.cell a (suc i) q r *ℤ g (suc (suc i)) q r ≡ pos 0) → crossing f u a (suc i) q r ≡ f.cell a i q r *ℤ g i q r
  crossing_high i q r hi hq hr e far = crossing_is (suc i) q r (omega arith) hq hr e
      ∙ only_first (f.cell a i q r *ℤ g i q r) _ (f.cell a i q r *ℤ g i q r) refl (none_behind (λ h. f.cell a h q r *ℤ g (suc h) q r) (f.cells a) (suc i) far)

  -- and at its low side
  pub crossing_low : (i q r : ℕ) → i < f.cells a → q < f.cells (second a) → r < f.cells (third a) → g i q r ≡ pos 0 →
      ((h : ℕ) → i ≡ suc h → f.cell a h q r *ℤ g h q r ≡ pos 0) → crossing f u a i q r ≡ f.cell a i q r *ℤ g (suc i) q r
  crossing_low i q r hi hq hr e far = crossing_is i q r (omega arith) hq hr e
      ∙ only_second _ _ (f.cell a i q r *ℤ g (suc i) q r) (none_before (λ h. f.cell a h q r *ℤ g h q r) i far)
      (ap (λ (b : Bool). cond b (f.cell a i q r *ℤ g (suc i) q r) (pos 0)) (lt-ltb i (f.cells a) hi))
