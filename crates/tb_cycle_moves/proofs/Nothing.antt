-- Where nothing flows, slope and rate are 0, and nothing is met.
use Rattle.std.proofs.Common.{◌≡◌, refl, ap, ◌∙◌, ℕ, suc, List, [], ◌∷◌}
use Rattle.std.proofs.Math.ListN.{replicate}
use lib.IntN.{ℤ, pos, ◌+ℤ◌, ◌*ℤ◌}
use Rattle.tb_math.proofs.ReadIntegers.{by_reading, reading}
use Rattle.tb_places.specs.declared.AxisName.{AxisName}
use Rattle.tb_places.specs.declared.AxisName.TheVariants.{X, Y, Z}
use Rattle.tb_places.specs.Along.{place_along}
use Rattle.tb_places.specs.Places.{Counts, along, face_count, face_number, place_at, second, third}
use Rattle.tb_outlets.proofs.MeshCycles.{none_flows}
use Rattle.tb_weighted.specs.Forms.{Spread3, axis_sum, only_at}
use Rattle.tb_weighted.specs.Flows.{FlowForms, Flows3, flow_rate, flow_slope}
use Rattle.tb_weighted.proofs.FlowSlopes.{ShareNoLine, rate_apart, slope_linear}
use Rattle.tb_weighted.proofs.Local.{total_none}
use Rattle.tb_cycles.specs.Moves.{flows_through}
use Rattle.tb_cycle_moves.proofs.Bends.{flow_through}
use Rattle.tb_cycle_moves.proofs.Directions.{crossing}

abbrev pub nothing : Counts → List ℤ
nothing n = replicate (face_count n) (pos 0)

abbrev none3 : Flows3
none3 a i j k = pos 0

is_none : (n : Counts) → ◌≡◌ {A = Flows3} (flows_through n (nothing n)) none3
is_none n = λ z a i j k. none_flows (face_count n) (face_number n a (place_at i j k)) z

none_twice : (x y : ℤ) → pos 0 *ℤ x +ℤ pos 0 *ℤ y ≡ pos 0
none_twice x y = by_reading {atoms = x ∷ y ∷ []} (search reading) (search reading) refl

none_squared : (x y : ℤ) → (pos 0 *ℤ pos 0) *ℤ x +ℤ (pos 0 *ℤ pos 0) *ℤ y ≡ pos 0
none_squared x y = by_reading {atoms = x ∷ y ∷ []} (search reading depth 40 fits 20000) (search reading depth 40 fits 20000) refl

pub slope_of_none : (f : FlowForms) (q : Flows3) (n : Counts) → flow_slope f q (flows_through n (nothing n)) ≡ pos 0
slope_of_none f q n = ap (λ (u : Flows3). flow_slope f q u) (is_none n) ∙ slope_linear f q (pos 0) (pos 0) none3 none3 ∙ none_twice (flow_slope f q none3) (flow_slope f q none3)

no_line : (a : AxisName) → ShareNoLine (along a (none3 a)) (along a (none3 a))
no_line X = λ i i' j k. refl
no_line Y = λ i i' j k. refl
no_line Z = λ i i' j k. refl

pub rate_of_none : (f : FlowForms) (n : Counts) → flow_rate f (flows_through n (nothing n)) ≡ pos 0
rate_of_none f n = ap (λ (u : Flows3). flow_rate f u) (is_none n) ∙ rate_apart f (pos 0) (pos 0) none3 none3 no_line ∙ none_squared (flow_rate f none3) (flow_rate f none3)

both : (a b : ℤ) → a ≡ pos 0 → b ≡ pos 0 → a +ℤ b ≡ pos 0
both a b e f = rw (e, f) refl

axis_none : (n m p : ℕ) (cell face : Spread3) → ((i j k : ℕ) → cell i j k ≡ pos 0) → ((i j k : ℕ) → face i j k ≡ pos 0) → axis_sum n m p cell face ≡ pos 0
unfolding axis_sum
axis_none n m p cell face e f = total_none p _ (λ k c. total_none m _ (λ j b. both _ _ (total_none n _ (λ i a. e i j k)) (total_none (suc n) _ (λ i a. f i j k))))

none_in : (v x y g h : ℤ) → g ≡ pos 0 → h ≡ pos 0 → v *ℤ (x *ℤ (pos 2 *ℤ g +ℤ h) +ℤ y *ℤ (g +ℤ pos 2 *ℤ h)) ≡ pos 0
none_in v x y g h e f = rw (e, f) (by_reading {atoms = v ∷ x ∷ y ∷ []} (search reading) (search reading) refl)

none_at : (s x g : ℤ) → g ≡ pos 0 → s *ℤ (pos 2 *ℤ (x *ℤ g)) +ℤ pos 0 *ℤ x ≡ pos 0
none_at s x g e = rw e (by_reading {atoms = s ∷ x ∷ []} (search reading depth 40 fits 20000) (search reading depth 40 fits 20000) refl)

pub nothing_crosses : (f : FlowForms) (n : Counts) (a : AxisName) (p j k : ℕ) → crossing f (flows_through n (nothing n)) a p j k ≡ pos 0
nothing_crosses f n a p j k = axis_none (f.cells a) (f.cells (second a)) (f.cells (third a)) _ _
    (λ x y z. none_in (f.cell a x y z) (only_at p j k x y z) (only_at p j k (suc x) y z) _ _ (none x y z) (none (suc x) y z))
    (λ x y z. none_at (f.face a x y z) (only_at p j k x y z) _ (none x y z))
  where
    none : (x y z : ℕ) → along a (flows_through n (nothing n) a) x y z ≡ pos 0
    none x y z = flow_through n (nothing n) a x y z ∙ none_flows (face_count n) (face_number n a (place_along a x y z))
