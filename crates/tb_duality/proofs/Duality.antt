-- Weak duality on one mesh.
--
-- At each cell and each surface face the source, the jumps of flux times temperature and the leaks are at most
-- the field and flux terms. Added up, the jumps and the leaks vanish.
use mathlib.Core.Path.{◌≡◌, refl, ap, ◌∙◌, subst}
use mathlib.Core.List.{[], ◌∷◌}
use Prim.Native.Nat.{ℕ, suc, ◌<◌, ◌≤◌}
use native.Mathlib.Omega.{arith}
use lib.IntN.{pos, negsuc}
use Rattle.std.specs.Prelude.{Some, Bool, true, false, if◌then◌else◌}
use Rattle.tb_math.specs.Rational.{ℚ, int, ◌+ℚ◌, ◌-ℚ◌, ◌*ℚ◌, neg_ℚ, ◌≤ℚ◌, ◌<ℚ◌}
use Rattle.tb_math.proofs.RationalOrder.{≤ℚ-add, ≤ℚ-refl}
use Rattle.tb_math.proofs.RationalProducts.{cancel_le_ℚ}
use Rattle.tb_math.proofs.RationalRing.{to_difference, from_difference}
use Rattle.tb_math.proofs.DivisionLaws.{product-is_positive}
use Rattle.tb_math.proofs.ReadRationals.{by_reading, by_given, reading, none, given}
use Rattle.tb_places.specs.declared.AxisName.{AxisName}
use Rattle.tb_places.specs.declared.AxisName.TheVariants.{X, Y, Z}
use Rattle.tb_places.specs.Places.{second, third, along}
use Rattle.tb_detail.specs.declared.Content.TheVariants.{Solid}
use Rattle.tb_model.specs.declared.FaceKind.TheVariants.{Shut}
use Rattle.tb_model.specs.Mesh.{Mesh, kind, cross_section}
use Rattle.tb_model.specs.Energy.{Case, Field, Flux, Terms, IsBalanced, exact, boundary, field_terms, flux_terms, entering_terms, energy, source, bound}
use Rattle.tb_model.specs.Positive.{IsPhysical}
use Rattle.tb_duality.specs.MeanValues.{entering}
use Rattle.tb_duality.proofs.Corners.{corner_sum, face_sum, corners_are}
use Rattle.tb_duality.proofs.Terms.{cell_law_neg, face_law_signed}
use Rattle.tb_duality.proofs.MeshSums.{AllRelated, exactly, exact_related}
use Rattle.tb_duality.proofs.Jumps.{jumps, jumps_none}
use Rattle.tb_duality.proofs.Leaks.{leaks, leaks_none}

-- twice the flux through a face times its temperatures
abbrev pub moment : Field → Flux → AxisName → ℕ → ℕ → ℕ → ℚ
moment T q a i j k = int (pos 2) *ℚ (along a (q a) i j k *ℚ face_sum T a i j k)

-- at a cell: the jump and the leak along an axis are flux times difference, which is at most 400 times the terms
cell_step : (E L w F0 F1 l00 l10 l01 l11 h00 h10 h01 h11 : ℚ) →
    w ≡ (l00 +ℚ l10 +ℚ l01 +ℚ l11) +ℚ (h00 +ℚ h10 +ℚ h01 +ℚ h11) →
    neg_ℚ ((F0 +ℚ F1) *ℚ ((h00 -ℚ l00) +ℚ (h10 -ℚ l10) +ℚ (h01 -ℚ l01) +ℚ (h11 -ℚ l11))) ≤ℚ int (pos 400) *ℚ (E +ℚ L) →
    int (pos 800000000) *ℚ int (pos 0) +ℚ ((int (pos 2) *ℚ (F0 *ℚ (l00 +ℚ l10 +ℚ l01 +ℚ l11)) -ℚ int (pos 2) *ℚ (F1 *ℚ (h00 +ℚ h10 +ℚ h01 +ℚ h11))) +ℚ (F1 -ℚ F0) *ℚ w) ≤ℚ int (pos 400) *ℚ (E +ℚ L)
cell_step E L w F0 F1 l00 l10 l01 l11 h00 h10 h01 h11 e h =
    subst (λ (t : ℚ). t ≤ℚ int (pos 400) *ℚ (E +ℚ L)) (by_given {atoms = w ∷ F0 ∷ F1 ∷ l00 ∷ l10 ∷ l01 ∷ l11 ∷ h00 ∷ h10 ∷ h01 ∷ h11 ∷ []} (search reading depth 60 fits 100000) (search reading depth 60 fits 100000)
    (given (F0 -ℚ F1) w ((l00 +ℚ l10 +ℚ l01 +ℚ l11) +ℚ (h00 +ℚ h10 +ℚ h01 +ℚ h11)) (search reading depth 20) (search reading) (search reading depth 20) e none) refl) h

-- at a surface face: the same, with the difference from the environment
surface_step : (case low : Bool) (B F t00 t10 t01 t11 : ℚ) →
    ((G : ℚ) → G *ℚ G ≡ F *ℚ F → int (pos 2) *ℚ (G *ℚ ((t00 -ℚ (if case then int (pos 100000000) else int (pos 0))) +ℚ (t10 -ℚ (if case then int (pos 100000000) else int (pos 0))) +ℚ (t01 -ℚ (if case then int (pos 100000000) else int (pos 0))) +ℚ (t11 -ℚ (if case then int (pos 100000000) else int (pos 0))))) ≤ℚ B) →
    int (pos 800000000) *ℚ (if case then (if low then F else neg_ℚ F) else int (pos 0)) +ℚ (neg_ℚ (entering (int (pos 2) *ℚ (F *ℚ (t00 +ℚ t10 +ℚ t01 +ℚ t11))) low) +ℚ int (pos 0)) ≤ℚ B
surface_step true true B F t00 t10 t01 t11 h =
    subst (λ (t : ℚ). t ≤ℚ B) (by_reading {atoms = F ∷ t00 ∷ t10 ∷ t01 ∷ t11 ∷ []} (search reading depth 60 fits 100000) (search reading depth 60 fits 100000) refl) (h (neg_ℚ F) (by_reading {atoms = F ∷ []} (search reading) (search reading) refl))
surface_step true false B F t00 t10 t01 t11 h =
    subst (λ (t : ℚ). t ≤ℚ B) (by_reading {atoms = F ∷ t00 ∷ t10 ∷ t01 ∷ t11 ∷ []} (search reading depth 60 fits 100000) (search reading depth 60 fits 100000) refl) (h F refl)
surface_step false true B F t00 t10 t01 t11 h =
    subst (λ (t : ℚ). t ≤ℚ B) (by_reading {atoms = F ∷ t00 ∷ t10 ∷ t01 ∷ t11 ∷ []} (search reading depth 60 fits 100000) (search reading depth 60 fits 100000) refl) (h (neg_ℚ F) (by_reading {atoms = F ∷ []} (search reading) (search reading) refl))
surface_step false false B F t00 t10 t01 t11 h =
    subst (λ (t : ℚ). t ≤ℚ B) (by_reading {atoms = F ∷ t00 ∷ t10 ∷ t01 ∷ t11 ∷ []} (search reading depth 60 fits 100000) (search reading depth 60 fits 100000) refl) (h F refl)

-- The five sums, and the inequality between their terms --

data Part : Type 0 where
  of_source : Part
  of_jumps : Part
  of_leaks : Part
  of_field : Part
  of_flux : Part

abbrev terms : Mesh → Case → Field → Flux → Part → Terms
terms m inside T q of_source = entering_terms inside q
terms m inside T q of_jumps = jumps (moment T q)
terms m inside T q of_leaks = leaks T q
terms m inside T q of_field = field_terms m inside T
terms m inside T q of_flux = flux_terms m q

abbrev Bounded : (Part → ℚ) → Type 0
Bounded f = int (pos 800000000) *ℚ f of_source +ℚ (f of_jumps +ℚ f of_leaks) ≤ℚ int (pos 400) *ℚ (f of_field +ℚ f of_flux)

bounded_none : Bounded (λ _. int (pos 0))
bounded_none = subst (λ (t : ℚ). t ≤ℚ int (pos 400) *ℚ (int (pos 0) +ℚ int (pos 0))) (by_reading {atoms = []} (search reading) (search reading) refl) (≤ℚ-refl (int (pos 400) *ℚ (int (pos 0) +ℚ int (pos 0))))

bounded_adds : (f g : Part → ℚ) → Bounded f → Bounded g → Bounded (λ p. f p +ℚ g p)
bounded_adds f g h k = added (f of_source) (f of_jumps) (f of_leaks) (f of_field) (f of_flux) (g of_source) (g of_jumps) (g of_leaks) (g of_field) (g of_flux) h k
  where
    added : (s j l e c s' j' l' e' c' : ℚ) → int (pos 800000000) *ℚ s +ℚ (j +ℚ l) ≤ℚ int (pos 400) *ℚ (e +ℚ c) → int (pos 800000000) *ℚ s' +ℚ (j' +ℚ l') ≤ℚ int (pos 400) *ℚ (e' +ℚ c') →
        int (pos 800000000) *ℚ (s +ℚ s') +ℚ ((j +ℚ j') +ℚ (l +ℚ l')) ≤ℚ int (pos 400) *ℚ ((e +ℚ e') +ℚ (c +ℚ c'))
    added s j l e c s' j' l' e' c' h k =
        subst (λ (t : ℚ). t ≤ℚ int (pos 400) *ℚ ((e +ℚ e') +ℚ (c +ℚ c'))) (by_reading {atoms = s ∷ j ∷ l ∷ s' ∷ j' ∷ l' ∷ []} (search reading depth 20) (search reading depth 20) refl)
        (subst (λ (t : ℚ). (int (pos 800000000) *ℚ s +ℚ (j +ℚ l)) +ℚ (int (pos 800000000) *ℚ s' +ℚ (j' +ℚ l')) ≤ℚ t) (by_reading {atoms = e ∷ c ∷ e' ∷ c' ∷ []} (search reading depth 20) (search reading depth 20) refl)
        (≤ℚ-add (int (pos 800000000) *ℚ s +ℚ (j +ℚ l)) (int (pos 400) *ℚ (e +ℚ c)) (int (pos 800000000) *ℚ s' +ℚ (j' +ℚ l')) (int (pos 400) *ℚ (e' +ℚ c')) h k))

section_positive : (m : Mesh) → IsPhysical m → (a : AxisName) (j k : ℕ) → j < m.cells (second a) → k < m.cells (third a) → int (pos 0) <ℚ cross_section m a j k
section_positive m physical a j k hj hk = product-is_positive (m.width (second a) j) (m.width (third a) k) (physical.widths (second a) j hj) (physical.widths (third a) k hk)

conducts : (m : Mesh) → IsPhysical m → (a : AxisName) (i j k n : ℕ) → i < m.cells a → j < m.cells (second a) → k < m.cells (third a) → along a m.occupant i j k ≡ Some (Solid n) → int (pos 0) <ℚ m.conductivity n a
conducts m physical X i j k n hi hj hk is = physical.conductivities X i j k n (hi, hj, hk) is
conducts m physical Y i j k n hi hj hk is = physical.conductivities Y j i k n (hj, hi, hk) is
conducts m physical Z i j k n hi hj hk is = physical.conductivities Z j k i n (hj, hk, hi) is

all_bounded : (m : Mesh) (inside : Case) (T : Field) (q : Flux) → IsPhysical m → AllRelated (exactly Part) Bounded bounded_none bounded_adds m (terms m inside T q)
all_bounded m inside T q physical = record {
  cells = λ a i j k n hi hj hk is. cell_step _ _ (along a (corner_sum T) i j k) (along a (q a) i j k) (along a (q a) (suc i) j k)
      (along a T i j k) (along a T i (suc j) k) (along a T i j (suc k)) (along a T i (suc j) (suc k))
      (along a T (suc i) j k) (along a T (suc i) (suc j) k) (along a T (suc i) j (suc k)) (along a T (suc i) (suc j) (suc k))
      (corners_are T a i j k)
      (cell_law_neg (m.conductivity n a) (m.width a i) (cross_section m a j k) (along a (q a) i j k) (along a (q a) (suc i) j k)
      (along a T (suc i) j k -ℚ along a T i j k) (along a T (suc i) (suc j) k -ℚ along a T i (suc j) k) (along a T (suc i) j (suc k) -ℚ along a T i j (suc k)) (along a T (suc i) (suc j) (suc k) -ℚ along a T i (suc j) (suc k))
      (conducts m physical a i j k n hi hj hk is) (physical.widths a i hi) (section_positive m physical a j k hj hk));
  surfaces = λ a i j k e rs low hi hj hk is. surface_step (inside e) low _ (along a (q a) i j k)
      (along a T i j k) (along a T i (suc j) k) (along a T i j (suc k)) (along a T i (suc j) (suc k))
      (λ G same. face_law_signed rs (cross_section m a j k) (along a (q a) i j k) G
      (along a T i j k -ℚ boundary inside e) (along a T i (suc j) k -ℚ boundary inside e) (along a T i j (suc k) -ℚ boundary inside e) (along a T i (suc j) (suc k) -ℚ boundary inside e)
      (physical.resistances a i j k e rs low hi hj hk is) (section_positive m physical a j k hj hk) same);
}

-- the theorem
pub duality : (m : Mesh) (inside : Case) (T : Field) (q : Flux) → IsPhysical m → IsBalanced m q → bound m inside q ≤ℚ energy m inside T
unfolding bound energy source
duality m inside T q physical balanced = cancel_le_ℚ 400 (int (pos 2000000) *ℚ exact m (entering_terms inside q) -ℚ exact m (flux_terms m q)) (exact m (field_terms m inside T)) (omega arith)
    (last (exact m (entering_terms inside q)) (exact m (jumps (moment T q))) (exact m (leaks T q)) (exact m (field_terms m inside T)) (exact m (flux_terms m q))
    (jumps_none m (moment T q) shut) (leaks_none m T q balanced)
    (exact_related Bounded bounded_none bounded_adds m (terms m inside T q) (all_bounded m inside T q physical)))
  where
    shut : (a : AxisName) (i j k : ℕ) → i ≤ m.cells a → j < m.cells (second a) → k < m.cells (third a) → kind m a i j k ≡ Shut → moment T q a i j k ≡ int (pos 0)
    shut a i j k hi hj hk is = ap (λ (z : ℚ). int (pos 2) *ℚ (z *ℚ face_sum T a i j k)) (balanced.shut a i j k hi hj hk is) ∙ vanishes (face_sum T a i j k)
      where
        vanishes : (w : ℚ) → int (pos 2) *ℚ (int (pos 0) *ℚ w) ≡ int (pos 0)
        vanishes w = by_reading {atoms = w ∷ []} (search reading) (search reading) refl

    last : (s j l e c : ℚ) → j ≡ int (pos 0) → l ≡ int (pos 0) → int (pos 800000000) *ℚ s +ℚ (j +ℚ l) ≤ℚ int (pos 400) *ℚ (e +ℚ c) → int (pos 400) *ℚ (int (pos 2000000) *ℚ s -ℚ c) ≤ℚ int (pos 400) *ℚ e
    last s j l e c ej el h = from_difference (int (pos 400) *ℚ (int (pos 2000000) *ℚ s -ℚ c)) (int (pos 400) *ℚ e) (subst (λ (t : ℚ). int (pos 0) ≤ℚ t) (by_given {atoms = s ∷ j ∷ l ∷ e ∷ c ∷ []} (search reading depth 20) (search reading depth 20)
        (given (int (negsuc 0)) j (int (pos 0)) (search reading) (search reading) (search reading) ej (given (int (negsuc 0)) l (int (pos 0)) (search reading) (search reading) (search reading) el none)) refl)
        (to_difference (int (pos 800000000) *ℚ s +ℚ (j +ℚ l)) (int (pos 400) *ℚ (e +ℚ c)) h))
