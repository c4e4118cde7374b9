-- The rounded loss of a flux and its weighted energy, over a whole mesh.
use mathlib.Core.Path.{◌≡◌, refl, sym, ap, ◌∙◌, subst}
use Prim.Native.Nat.{ℕ, suc, ◌+◌, ◌*◌, ◌^◌, ◌<◌, ◌≤◌}
use native.Mathlib.Omega.{arith}
use Rattle.std.proofs.lemmas.Int.{ints}
use Rattle.std.specs.Prelude.{Bool, true, false, Some, if◌then◌else◌, unsigned_abs}
use lib.IntN.{ℤ, pos, neg_ℤ, ◌+ℤ◌, ◌-ℤ◌, ◌*ℤ◌}
use lib.Signed.{◌≤ℤ◌}
use Rattle.tb_math.specs.Ceiling.{ceiling, floor}
use Rattle.tb_math.specs.Division.{◌/ℚ◌}
use Rattle.tb_math.specs.Rational.{ℚ, int, ◌+ℚ◌, ◌*ℚ◌, ◌<ℚ◌, neg_ℚ}
use Rattle.tb_math.proofs.CeilingLaws.{floor-int}
use Rattle.tb_math.proofs.DivisionLaws.{product-is_positive}
use Rattle.tb_math.proofs.RationalLaws.{int-add, int-mul, int-neg}
use Rattle.tb_places.specs.declared.AxisName.{AxisName}
use Rattle.tb_places.specs.declared.AxisName.TheVariants.{X, Y, Z}
use Rattle.tb_places.specs.Places.{along, cell_count, second, third}
use Rattle.tb_detail.specs.declared.Content.TheVariants.{Solid}
use Rattle.tb_model.specs.Energy.{Case, Flux, Terms, cell_loss, entering_terms, exact, flux_terms, lower_end, number_of_terms, passage, rounded_up, source, surface_loss}
use Rattle.tb_model.specs.Mesh.{Mesh, cross_section}
use Rattle.tb_model.specs.Positive.{IsPhysical}
use Rattle.tb_weighted.specs.Weighted.{weighted_flux, weighted_flux_terms, whole_sum, whole_weight}
use Rattle.tb_duality.proofs.MeshSums.{AllRelated, Readings, mesh_related}
use Rattle.tb_costs.specs.Admissible.{most_energy, most_loss}
use Rattle.tb_costs.proofs.Counting.{few_terms}
use Rattle.tb_costs.proofs.Flows.{IsFlow, IsForm, passage_form, square_form}
use Rattle.tb_costs.proofs.TermWeights.{cell_weighted, face_weighted}
use Rattle.tb_costs.proofs.Weights.{IsWeighted, cost_from_energy, energy_from_cost}

-- ---- five sums over a mesh: how many terms, the rounded loss, the weighted loss, and what enters, exactly and in whole numbers
data Part : Type 0 where
  counted : Part
  lost : Part
  weighed : Part
  entered : Part
  entered_whole : Part

abbrev Sum : Part → Type 0
Sum counted = ℕ
Sum lost = ℤ
Sum weighed = ℤ
Sum entered = ℚ
Sum entered_whole = ℤ

abbrev none : (p : Part) → Sum p
none counted = 0
none lost = pos 0
none weighed = pos 0
none entered = int (pos 0)
none entered_whole = pos 0

abbrev plus : (p : Part) → Sum p → Sum p → Sum p
plus counted = ◌+◌
plus lost = ◌+ℤ◌
plus weighed = ◌+ℤ◌
plus entered = ◌+ℚ◌
plus entered_whole = ◌+ℤ◌

abbrev read : (p : Part) → ℚ → Sum p
read counted x = 1
read lost x = ceiling x
read weighed x = floor x
read entered x = x
read entered_whole x = floor x

abbrev readings : Readings Part
readings = record { Sum = Sum; none = none; plus = plus; read = read }

abbrev terms : Mesh → Case → Flux → Part → Terms
terms m inside q counted = flux_terms m q
terms m inside q lost = flux_terms m q
terms m inside q weighed = weighted_flux_terms m q
terms m inside q entered = entering_terms inside q
terms m inside q entered_whole = entering_terms inside q

-- what holds of one term and adds up
pub record AreNear (count : ℕ) (loss energy : ℤ) (entering : ℚ) (whole : ℤ) : Type 0 where
  pub loss_from_energy : (pos (3 * 2 ^ 44) *ℤ loss) ≤ℤ (pos (2 * 10 ^ 5) *ℤ energy +ℤ pos (3 * 2 ^ 44) *ℤ pos count)
  pub energy_from_loss : (pos (10 ^ 5) *ℤ energy) ≤ℤ (pos (3 * 2 ^ 44) *ℤ loss +ℤ pos (3 * 10 ^ 29) *ℤ pos count)
  pub at_most : whole ≤ℤ (pos (10 ^ 12) *ℤ pos count)
  pub is : entering ≡ int whole

abbrev Near : ((p : Part) → Sum p) → Type 0
Near f = AreNear (f counted) (f lost) (f weighed) (f entered) (f entered_whole)

near_none : AreNear 0 (pos 0) (pos 0) (int (pos 0)) (pos 0)
near_none = record { loss_from_energy = omega (arith, ints); energy_from_loss = omega (arith, ints); at_most = omega (arith, ints); is = refl }

near_plus : (n n' : ℕ) (l l' e e' : ℤ) (x x' : ℚ) (z z' : ℤ) → AreNear n l e x z → AreNear n' l' e' x' z' → AreNear (n + n') (l +ℤ l') (e +ℤ e') (x +ℚ x') (z +ℤ z')
near_plus n n' l l' e e' x x' z z' h k = record {
  loss_from_energy = omega (arith, ints, h.loss_from_energy, k.loss_from_energy);
  energy_from_loss = omega (arith, ints, h.energy_from_loss, k.energy_from_loss);
  at_most = omega (arith, ints, h.at_most, k.at_most);
  is = ap (λ (t : ℚ). t +ℚ x') h.is ∙ ap (λ (t : ℚ). int z +ℚ t) k.is ∙ sym (int-add z z');
}

near_adds : (f g : (p : Part) → Sum p) → Near f → Near g → Near (λ p. plus p (f p) (g p))
near_adds f g h k = near_plus (f counted) (g counted) (f lost) (g lost) (f weighed) (g weighed) (f entered) (g entered) (f entered_whole) (g entered_whole) h k

-- ---- one term
-- the weighted form of whole flows is whole
whole_form : (w : ℤ) (P : ℚ) (form : ℤ) → IsForm P form → floor (int w *ℚ P) ≡ w *ℤ form
whole_form w P form f = ap floor (ap (λ (t : ℚ). int w *ℚ t) f.is ∙ sym (int-mul w form)) ∙ floor-int (w *ℤ form)

near_term : (loss x P : ℚ) (form : ℤ) (F : ℚ) (flow : ℤ) → IsWeighted loss x form → IsForm P form → F ≡ int flow → flow ≤ℤ pos (10 ^ 12) → AreNear 1 (ceiling loss) (floor (int (whole_weight x) *ℚ P)) F (floor F)
near_term loss x P form F flow h f is small =
    subst (λ (z : ℤ). AreNear 1 (ceiling loss) z F (floor F)) (sym (whole_form (whole_weight x) P form f))
    (subst (λ (z : ℚ). AreNear 1 (ceiling loss) (whole_weight x *ℤ form) z (floor z)) (sym is)
    (subst (λ (z : ℤ). AreNear 1 (ceiling loss) (whole_weight x *ℤ form) (int flow) z) (sym (floor-int flow))
    (near (ceiling loss) (whole_weight x *ℤ form) form flow (cost_from_energy loss x form h) (energy_from_cost loss x form h) f.at_most small)))
  where
    near : (c e form flow : ℤ) → (pos (3 * 2 ^ 44) *ℤ c) ≤ℤ (pos (2 * 10 ^ 5) *ℤ e +ℤ pos (3 * 2 ^ 44)) → (pos (10 ^ 5) *ℤ e) ≤ℤ (pos (3 * 2 ^ 44) *ℤ c +ℤ pos (10 ^ 5) *ℤ form)
        → form ≤ℤ pos (3 * 10 ^ 24) → flow ≤ℤ pos (10 ^ 12) → AreNear 1 c e (int flow) flow
    near c e form flow h k l s = record { loss_from_energy = omega (arith, ints); energy_from_loss = omega (arith, ints); at_most = omega (arith, ints); is = refl }

-- what enters through a face
record IsEntering (x : ℚ) : Type 0 where
  flow : ℤ
  is : x ≡ int flow
  small : flow ≤ℤ pos (10 ^ 12)

enters : (b low : Bool) (F : ℚ) → IsFlow F → IsEntering (if b then (if low then F else neg_ℚ F) else int (pos 0))
enters true true F f = record { flow = f.value; is = f.is; small = up f.value f.small }
  where
    up : (z : ℤ) → unsigned_abs z ≤ 10 ^ 12 → z ≤ℤ pos (10 ^ 12)
    up z h = omega (arith, ints)
enters true false F f = record { flow = neg_ℤ f.value; is = ap neg_ℚ f.is ∙ sym (int-neg f.value); small = down f.value f.small }
  where
    down : (z : ℤ) → unsigned_abs z ≤ 10 ^ 12 → neg_ℤ z ≤ℤ pos (10 ^ 12)
    down z h = omega (arith, ints)
enters false low F f = record { flow = pos 0; is = refl; small = omega (arith, ints) }

-- ---- a mesh, and a flux of whole flows within limits
conducts : (m : Mesh) → IsPhysical m → (a : AxisName) (i j k n : ℕ) → i < m.cells a → j < m.cells (second a) → k < m.cells (third a) → along a m.occupant i j k ≡ Some (Solid n) → int (pos 0) <ℚ m.conductivity n a
conducts m physical X i j k n hi hj hk is = physical.conductivities X i j k n (hi, hj, hk) is
conducts m physical Y i j k n hi hj hk is = physical.conductivities Y j i k n (hj, hi, hk) is
conducts m physical Z i j k n hi hj hk is = physical.conductivities Z j k i n (hj, hk, hi) is

module _ (m : Mesh) (inside : Case) (q : Flux) (physical : IsPhysical m) (flows : (a : AxisName) (i j k : ℕ) → IsFlow (along a (q a) i j k)) where
  section_positive : (a : AxisName) (j k : ℕ) → j < m.cells (second a) → k < m.cells (third a) → int (pos 0) <ℚ cross_section m a j k
  section_positive a j k hj hk = product-is_positive (m.width (second a) j) (m.width (third a) k) (physical.widths (second a) j hj) (physical.widths (third a) k hk)

  all_near : AllRelated readings Near near_none near_adds m (terms m inside q)
  all_near = record {
    cells = λ a i j k n hi hj hk is.
        let c = m.conductivity n a in let w = m.width a i in let s = cross_section m a j k in
        let form = passage_form (along a (q a) i j k) (along a (q a) (suc i) j k) (flows a i j k) (flows a (suc i) j k) in
        near_term (cell_loss c w s (passage (along a (q a) i j k) (along a (q a) (suc i) j k))) (w *ℚ int (pos (2 ^ 44)) /ℚ (s *ℚ c)) (passage (along a (q a) i j k) (along a (q a) (suc i) j k)) _ (int (pos 0)) (pos 0)
        (cell_weighted c w s (passage (along a (q a) i j k) (along a (q a) (suc i) j k)) _ (conducts m physical a i j k n hi hj hk is) (physical.widths a i hi) (section_positive a j k hj hk) form) form refl (omega (arith, ints));
    surfaces = λ a i j k e rs low hi hj hk is.
        let s = cross_section m a j k in let F = along a (q a) i j k in
        let form = square_form F (flows a i j k) in
        let enter = enters (inside e) low F (flows a i j k) in
        near_term (surface_loss rs s F) (int (pos (3 * rs * 2 ^ 44)) /ℚ (s *ℚ int (pos (10 ^ 4)))) (F *ℚ F) _ _ enter.flow (face_weighted rs s F _ (section_positive a j k hj hk) form) form enter.is enter.small;
  }

  pub sums_near : AreNear (number_of_terms m (flux_terms m q)) (rounded_up m (flux_terms m q)) (whole_sum m (weighted_flux_terms m q)) (exact m (entering_terms inside q)) (whole_sum m (entering_terms inside q))
  unfolding number_of_terms rounded_up exact
  sums_near = mesh_related readings Near near_none near_adds m (terms m inside q) all_near

  -- ---- on a mesh of few cells
  module _ (some : (a : AxisName) → 0 < m.cells a) (few : cell_count m.cells ≤ 262144) where
    pub cost_bounded : weighted_flux m inside q ≤ℤ most_energy → rounded_up m (flux_terms m q) ≤ℤ most_loss
    unfolding weighted_flux
    cost_bounded h = last (number_of_terms m (flux_terms m q)) (cell_count m.cells) (rounded_up m (flux_terms m q)) (whole_sum m (weighted_flux_terms m q)) (whole_sum m (entering_terms inside q))
        (few_terms m (flux_terms m q) some) few sums_near.loss_from_energy sums_near.at_most h
      where
        last : (n cells : ℕ) (cost energy entering : ℤ) → n ≤ 9 * cells → cells ≤ 262144 → (pos (3 * 2 ^ 44) *ℤ cost) ≤ℤ (pos (2 * 10 ^ 5) *ℤ energy +ℤ pos (3 * 2 ^ 44) *ℤ pos n)
            → entering ≤ℤ (pos (10 ^ 12) *ℤ pos n) → (energy -ℤ pos (60 * 2 ^ 44) *ℤ entering) ≤ℤ most_energy → cost ≤ℤ most_loss
        last n cells cost energy entering h k l s e = omega (arith, ints)

    pub energy_bounded : pos 0 ≤ℤ lower_end m inside q → weighted_flux m inside q ≤ℤ most_energy
    unfolding weighted_flux lower_end source
    energy_bounded h = last (number_of_terms m (flux_terms m q)) (cell_count m.cells) (rounded_up m (flux_terms m q)) (whole_sum m (weighted_flux_terms m q)) (whole_sum m (entering_terms inside q))
        (few_terms m (flux_terms m q) some) few sums_near.energy_from_loss
        (subst (λ (z : ℤ). pos 0 ≤ℤ (z -ℤ rounded_up m (flux_terms m q))) (whole_source (exact m (entering_terms inside q)) (whole_sum m (entering_terms inside q)) sums_near.is) h)
      where
        whole_source : (x : ℚ) (z : ℤ) → x ≡ int z → floor (int (pos (2 * 10 ^ 6)) *ℚ x) ≡ pos (2 * 10 ^ 6) *ℤ z
        whole_source x z e = ap floor (ap (λ (t : ℚ). int (pos (2 * 10 ^ 6)) *ℚ t) e ∙ sym (int-mul (pos (2 * 10 ^ 6)) z)) ∙ floor-int (pos (2 * 10 ^ 6) *ℤ z)

        last : (n cells : ℕ) (cost energy entering : ℤ) → n ≤ 9 * cells → cells ≤ 262144 → (pos (10 ^ 5) *ℤ energy) ≤ℤ (pos (3 * 2 ^ 44) *ℤ cost +ℤ pos (3 * 10 ^ 29) *ℤ pos n)
            → pos 0 ≤ℤ (pos (2 * 10 ^ 6) *ℤ entering -ℤ cost) → (energy -ℤ pos (60 * 2 ^ 44) *ℤ entering) ≤ℤ most_energy
        last n cells cost energy entering h k l s = omega (arith, ints)
