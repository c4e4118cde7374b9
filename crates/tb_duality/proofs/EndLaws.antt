-- The ends of an interval: the sums of rounded terms against the energy and the bound, and soundness on one mesh.
use mathlib.Core.Path.{◌≡◌, refl, sym, subst}
use mathlib.Core.List.{[], ◌∷◌}
use Prim.Native.Nat.{ℕ, ◌+◌, ◌<◌}
use lib.IntN.{ℤ, pos, ◌+ℤ◌, ◌-ℤ◌, neg_ℤ}
use Rattle.tb_math.specs.Rational.{ℚ, int, ◌+ℚ◌, ◌-ℚ◌, neg_ℚ, ◌≤ℚ◌, ◌<ℚ◌}
use Rattle.tb_math.specs.Ceiling.{ceiling, floor, RoundsTerms}
use Rattle.tb_math.proofs.RationalLaws.{int-neg, int-difference}
use Rattle.tb_math.proofs.RationalOrder.{≤ℚ-add, ≤ℚ-refl, ≤ℚ-trans}
use Rattle.tb_math.proofs.RationalProducts.{≤ℚ-neg}
use Rattle.tb_math.proofs.StrictOrder.{<ℚ-add}
use Rattle.tb_math.proofs.ReadRationals.{by_reading, reading}
use Rattle.tb_math.proofs.CeilingLaws.{ceiling-above, floor-int}
use Rattle.tb_math.proofs.SumsOfCeilings.{rounds-none, rounds-one, rounds-plus}
use Rattle.tb_model.specs.Mesh.{Mesh}
use Rattle.tb_model.specs.Energy.{Case, Field, Flux, Terms, IsBalanced, exact, rounded_up, number_of_terms, field_terms, flux_terms, energy, source, bound, upper_end, lower_end}
use Rattle.tb_model.specs.Refinement.{Scene, Refinement, Refines, mesh}
use Rattle.tb_model.specs.Soundness.{IsSoundOn}
use Rattle.tb_model.specs.Positive.{HasPositiveBoxes}
use Rattle.tb_duality.proofs.MeshSums.{Readings, mesh_related}
use Rattle.tb_duality.proofs.Duality.{duality}
use Rattle.tb_duality.proofs.PhysicalMeshes.{mesh_physical}

-- the three readings of a term
data Reading : Type 0 where
  counted : Reading
  precise : Reading
  rounded : Reading

abbrev Sum : Reading → Type 0
Sum counted = ℕ
Sum precise = ℚ
Sum rounded = ℤ

abbrev none : (p : Reading) → Sum p
none counted = 0
none precise = int (pos 0)
none rounded = pos 0

abbrev plus : (p : Reading) → Sum p → Sum p → Sum p
plus counted = ◌+◌
plus precise = ◌+ℚ◌
plus rounded = ◌+ℤ◌

abbrev read : (p : Reading) → ℚ → Sum p
read counted x = 1
read precise x = x
read rounded x = ceiling x

abbrev readings : Readings Reading
readings = record { Sum = Sum; none = none; plus = plus; read = read }

abbrev Near : ((p : Reading) → Sum p) → Type 0
Near f = RoundsTerms (f counted) (f precise) (f rounded)

near_adds : (f g : (p : Reading) → Sum p) → Near f → Near g → Near (λ p. plus p (f p) (g p))
near_adds f g h k = rounds-plus (f counted) (g counted) (f precise) (g precise) (f rounded) (g rounded) h k

-- a sum of rounded terms is near the exact one
pub terms_near : (m : Mesh) (t : Terms) → RoundsTerms (number_of_terms m t) (exact m t) (rounded_up m t)
unfolding number_of_terms exact rounded_up
terms_near m t = mesh_related readings Near rounds-none near_adds m (λ _. t) (record { cells = λ a i j k n hi hj hk is. rounds-one (t.cell a i j k (m.conductivity n a)); surfaces = λ a i j k e rs low hi hj hk is. rounds-one (t.surface a i j k e rs low) })

pub upper_end_near : (m : Mesh) (inside : Case) (T : Field) → RoundsTerms (number_of_terms m (field_terms m inside T)) (energy m inside T) (upper_end m inside T)
unfolding energy upper_end
upper_end_near m inside T = terms_near m (field_terms m inside T)

-- rounded down, a number is not above itself
floor-below : (p : ℚ) → int (floor p) ≤ℚ p
unfolding floor
floor-below p = subst (λ (t : ℚ). int (neg_ℤ (ceiling (neg_ℚ p))) ≤ℚ t) (twice p) (subst (λ (t : ℚ). t ≤ℚ neg_ℚ (neg_ℚ p)) (sym (int-neg (ceiling (neg_ℚ p)))) (≤ℚ-neg (neg_ℚ p) (int (ceiling (neg_ℚ p))) (ceiling-above (neg_ℚ p))))
  where
    twice : (p : ℚ) → neg_ℚ (neg_ℚ p) ≡ p
    twice p = by_reading {atoms = p ∷ []} (search reading) (search reading) refl

pub lower_end_below : (m : Mesh) (inside : Case) (q : Flux) → int (lower_end m inside q) ≤ℚ bound m inside q
unfolding lower_end bound
lower_end_below m inside q = subst (λ (t : ℚ). t ≤ℚ source m inside q -ℚ exact m (flux_terms m q)) (sym (int-difference (floor (source m inside q)) (rounded_up m (flux_terms m q))))
    (≤ℚ-add (int (floor (source m inside q))) (source m inside q) (neg_ℚ (int (rounded_up m (flux_terms m q)))) (neg_ℚ (exact m (flux_terms m q)))
    (floor-below (source m inside q)) (≤ℚ-neg (exact m (flux_terms m q)) (int (rounded_up m (flux_terms m q))) (terms_near m (flux_terms m q)).above))

-- where the source is whole, the bound is less than one a term above the lower end
pub lower_end_near : (m : Mesh) (inside : Case) (q : Flux) (z : ℤ) → source m inside q ≡ int z → 0 < number_of_terms m (flux_terms m q) →
    bound m inside q <ℚ int (lower_end m inside q) +ℚ int (pos (number_of_terms m (flux_terms m q)))
unfolding lower_end bound
lower_end_near m inside q z whole some =
    subst (λ (t : ℚ). t -ℚ exact m (flux_terms m q) <ℚ int (floor t -ℤ rounded_up m (flux_terms m q)) +ℚ int (pos (number_of_terms m (flux_terms m q)))) (sym whole)
    (subst (λ (t : ℤ). int z -ℚ exact m (flux_terms m q) <ℚ int (t -ℤ rounded_up m (flux_terms m q)) +ℚ int (pos (number_of_terms m (flux_terms m q)))) (sym (floor-int z))
    (subst (λ (t : ℚ). int z -ℚ exact m (flux_terms m q) <ℚ t +ℚ int (pos (number_of_terms m (flux_terms m q)))) (sym (int-difference z (rounded_up m (flux_terms m q))))
    (less (int z) (exact m (flux_terms m q)) (int (rounded_up m (flux_terms m q))) (int (pos (number_of_terms m (flux_terms m q)))) ((terms_near m (flux_terms m q)).strictly some))))
  where
    less : (s l u n : ℚ) → u <ℚ l +ℚ n → s -ℚ l <ℚ (s -ℚ u) +ℚ n
    less s l u n h = subst (λ (t : ℚ). t <ℚ (s -ℚ u) +ℚ n) (by_reading {atoms = s ∷ l ∷ u ∷ []} (search reading depth 20) (search reading depth 20) refl)
        (subst (λ (t : ℚ). u +ℚ (s -ℚ l -ℚ u) <ℚ t) (by_reading {atoms = s ∷ l ∷ u ∷ n ∷ []} (search reading depth 20) (search reading depth 20) refl)
        (<ℚ-add u (l +ℚ n) (s -ℚ l -ℚ u) (s -ℚ l -ℚ u) h (≤ℚ-refl (s -ℚ l -ℚ u))))

-- the two ends of a field and a balanced flux, on the mesh of a refinement
pub sound_on : (s : Scene) (r : Refinement) (inside : Case) (T : Field) (q : Flux) → Refines s r → HasPositiveBoxes s → IsBalanced (mesh s r) q →
    IsSoundOn s r inside (lower_end (mesh s r) inside q) (upper_end (mesh s r) inside T)
sound_on s r inside T q refines boxes balanced = let physical = mesh_physical s r refines boxes in record {
  fields = λ T'. ≤ℚ-trans (int (lower_end (mesh s r) inside q)) (bound (mesh s r) inside q) (energy (mesh s r) inside T') (lower_end_below (mesh s r) inside q) (duality (mesh s r) inside T' q physical balanced);
  fluxes = λ q' balanced'. ≤ℚ-trans (bound (mesh s r) inside q') (energy (mesh s r) inside T) (int (upper_end (mesh s r) inside T)) (duality (mesh s r) inside T q' physical balanced') (upper_end_near (mesh s r) inside T).above;
}
