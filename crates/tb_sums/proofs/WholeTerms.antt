-- Where all terms are whole numbers, their exact sum is the sum of them rounded up: so of the flow that enters a body.
use Rattle.std.proofs.Common.{◌≡◌, refl, sym, ap, ◌∙◌, ℕ, zero, suc, ◌*◌, ◌^◌, ℤ, pos, neg_ℤ, ◌+ℤ◌, ◌*ℤ◌, Bool, true, false, if◌then◌else◌, Option, Some, None}
use Rattle.tb_math.specs.Ceiling.{ceiling, floor}
use Rattle.tb_math.specs.Rational.{ℚ, int, ◌+ℚ◌, ◌*ℚ◌, neg_ℚ}
use Rattle.tb_math.specs.Sums.{total, total_ℤ}
use Rattle.tb_math.proofs.CeilingLaws.{ceiling-int, floor-int}
use Rattle.tb_math.proofs.RationalLaws.{int-add, int-mul, int-neg}
use Rattle.tb_places.specs.declared.AxisName.{AxisName}
use Rattle.tb_places.specs.declared.AxisName.TheVariants.{X, Y, Z}
use Rattle.tb_places.specs.Places.{along, second, third}
use Rattle.tb_detail.specs.declared.Content.{Content}
use Rattle.tb_detail.specs.declared.Content.TheVariants.{Solid, Air}
use Rattle.tb_model.specs.declared.FaceKind.{FaceKind}
use Rattle.tb_model.specs.declared.FaceKind.TheVariants.{Inner, Surface, Shut, Idle}
use Rattle.tb_model.specs.Mesh.{Mesh, kind}
use Rattle.tb_model.specs.Energy.{Case, Flux, Terms, at_surface, axis_sum, entering_terms, exact, line_sum, of_solid, rounded_up, source}

-- a rational number is this whole one
record IsWhole (q : ℚ) (z : ℤ) : Type 0 where
  is : q ≡ int z

none_whole : IsWhole (int (pos 0)) (pos 0)
none_whole = record { is = refl }

plus_whole : (p q : ℚ) (y z : ℤ) → IsWhole p y → IsWhole q z → IsWhole (p +ℚ q) (y +ℤ z)
plus_whole p q y z h k = record { is = ap (λ (t : ℚ). t +ℚ q) h.is ∙ ap (λ (t : ℚ). int y +ℚ t) k.is ∙ sym (int-add y z) }

sum_whole : (n : ℕ) (f : ℕ → ℚ) (g : ℕ → ℤ) → ((i : ℕ) → IsWhole (f i) (g i)) → IsWhole (total n f) (total_ℤ n g)
sum_whole zero f g h = none_whole
sum_whole (suc n) f g h = plus_whole (total n f) (f n) (total_ℤ n g) (g n) (sum_whole n f g h) (h n)

-- terms that are whole
record AreWhole (t : Terms) : Type 0 where
  cell : (a : AxisName) (i j k : ℕ) (c : ℚ) → IsWhole (t.cell a i j k c) (ceiling (t.cell a i j k c))
  surface : (a : AxisName) (i j k e rs : ℕ) (low : Bool) → IsWhole (t.surface a i j k e rs low) (ceiling (t.surface a i j k e rs low))

module _ (m : Mesh) (t : Terms) (whole : AreWhole t) where
  face_whole : (a : AxisName) (i j k : ℕ) (f : FaceKind) →
      IsWhole (at_surface (int (pos 0)) (λ e rs low. t.surface a i j k e rs low) f) (at_surface (pos 0) (λ e rs low. ceiling (t.surface a i j k e rs low)) f)
  face_whole a i j k (Surface e rs low) = whole.surface a i j k e rs low
  face_whole a i j k Inner = none_whole
  face_whole a i j k Shut = none_whole
  face_whole a i j k Idle = none_whole

  cell_whole : (a : AxisName) (i j k : ℕ) (o : Option Content) →
      IsWhole (of_solid (int (pos 0)) (λ n. t.cell a i j k (m.conductivity n a)) o) (of_solid (pos 0) (λ n. ceiling (t.cell a i j k (m.conductivity n a))) o)
  cell_whole a i j k (Some (Solid n)) = whole.cell a i j k (m.conductivity n a)
  cell_whole a i j k (Some (Air e rs)) = none_whole
  cell_whole a i j k None = none_whole

  line_whole : (a : AxisName) (j k : ℕ) → IsWhole (line_sum (int (pos 0)) ◌+ℚ◌ (λ x. x) m t a j k) (line_sum (pos 0) ◌+ℤ◌ ceiling m t a j k)
  line_whole a j k = plus_whole _ _ _ _
      (sum_whole (m.cells a) _ _ (λ i. cell_whole a i j k (along a m.occupant i j k)))
      (sum_whole (suc (m.cells a)) _ _ (λ i. face_whole a i j k (kind m a i j k)))

  axis_whole : (a : AxisName) → IsWhole (axis_sum (int (pos 0)) ◌+ℚ◌ (λ x. x) m t a) (axis_sum (pos 0) ◌+ℤ◌ ceiling m t a)
  axis_whole a = sum_whole (m.cells (third a)) _ _ (λ k. sum_whole (m.cells (second a)) _ _ (λ j. line_whole a j k))

  sums_whole : IsWhole (exact m t) (rounded_up m t)
  unfolding exact rounded_up
  sums_whole = plus_whole _ _ _ _ (plus_whole _ _ _ _ (axis_whole X) (axis_whole Y)) (axis_whole Z)

-- ---- the flow that enters
whole_int : (z : ℤ) → IsWhole (int z) (ceiling (int z))
whole_int z = record { is = ap int (sym (ceiling-int z)) }

whole_negative : (z : ℤ) → IsWhole (neg_ℚ (int z)) (ceiling (neg_ℚ (int z)))
whole_negative z = record { is = sym (int-neg z) ∙ ap int (sym (ceiling-int (neg_ℤ z)) ∙ ap ceiling (int-neg z)) }

entering_whole : (b low : Bool) (z : ℤ) →
    IsWhole (if b then (if low then int z else neg_ℚ (int z)) else int (pos 0)) (ceiling (if b then (if low then int z else neg_ℚ (int z)) else int (pos 0)))
entering_whole true true z = whole_int z
entering_whole true false z = whole_negative z
entering_whole false low z = whole_int (pos 0)

-- a flux of whole numbers
abbrev pub whole_flux : (AxisName → ℕ → ℕ → ℕ → ℤ) → Flux
whole_flux f a i j k = int (f a i j k)

entering_terms_whole : (inside : Case) (f : AxisName → ℕ → ℕ → ℕ → ℤ) → AreWhole (entering_terms inside (whole_flux f))
entering_terms_whole inside f = record { cell = λ a i j k c. whole_int (pos 0); surface = by_axis }
  where
    by_axis : (a : AxisName) (i j k e rs : ℕ) (low : Bool) →
        IsWhole ((entering_terms inside (whole_flux f)).surface a i j k e rs low) (ceiling ((entering_terms inside (whole_flux f)).surface a i j k e rs low))
    by_axis X i j k e rs low = entering_whole (inside e) low (f X i j k)
    by_axis Y i j k e rs low = entering_whole (inside e) low (f Y j i k)
    by_axis Z i j k e rs low = entering_whole (inside e) low (f Z j k i)

pub source_is : (m : Mesh) (inside : Case) (f : AxisName → ℕ → ℕ → ℕ → ℤ) →
    floor (source m inside (whole_flux f)) ≡ pos (2 * 10 ^ 6) *ℤ rounded_up m (entering_terms inside (whole_flux f))
unfolding source
source_is m inside f =
    let whole = sums_whole m (entering_terms inside (whole_flux f)) (entering_terms_whole inside f) in
    let sum = rounded_up m (entering_terms inside (whole_flux f)) in
    ap floor (ap (λ (q : ℚ). int (pos (2 * 10 ^ 6)) *ℚ q) whole.is ∙ sym (int-mul (pos (2 * 10 ^ 6)) sum)) ∙ floor-int (pos (2 * 10 ^ 6) *ℤ sum)
