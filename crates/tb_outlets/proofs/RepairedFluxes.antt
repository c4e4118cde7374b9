-- The repaired flux is the only one, among all fluxes of rational values.
use Rattle.std.proofs.Common.{◌≡◌, ℕ, ◌<◌, ◌≤◌, List, Bool, true, false, arith, add-one, refl, sym, ap, subst, ◌∙◌, ⊎_elim}
use Rattle.std.specs.Prelude.{ℤ, pos, nat_lt, if◌then◌else◌}
use Rattle.std.proofs.lemmas.Bool.{cases_lt}
use Rattle.tb_math.specs.Rational.{ℚ, int, ◌+ℚ◌, ◌-ℚ◌}
use Rattle.tb_places.specs.declared.AxisName.{AxisName}
use Rattle.tb_places.specs.declared.AxisName.TheVariants.{X, Y, Z}
use Rattle.tb_places.specs.declared.Place.{Place}
use Rattle.tb_places.specs.declared.FacePlace.{FacePlace}
use Rattle.tb_places.specs.Inverse.{cell_place, face_place}
use Rattle.tb_places.specs.Places.{Counts, IsCell, IsFace, cell_count, face_count, face_number}
use Rattle.tb_places.proofs.Faces.{face_number_below, face_number_of_place, face_place_of_number, face_place_within}
use Rattle.tb_model.specs.Mesh.{Mesh, kind_at}
use Rattle.tb_model.specs.Values.{flux_of}
use Rattle.tb_model.specs.Energy.{Flux, IsBalanced, outflow}
use Rattle.tb_outlets.specs.declared.side.Side.{Side}
use Rattle.tb_outlets.specs.declared.side.Side.TheVariants.{Low, High}
use Rattle.tb_outlets.specs.Flows.{IsOutlet}
use Rattle.tb_outlets.specs.Sides.{axis_of, face_of, number_on, place_on}
use Rattle.tb_outlets.specs.Outlets.{AreDistances, AreOutlets, IsSolidAt}
use Rattle.tb_outlets.specs.Repair.{IsOutletFace, IsRepaired, IsRepairedFlux, carries, flow_at, kind_of}
use Rattle.tb_outlets.proofs.OneOutlet.{face_is_outlet}
use Rattle.tb_outlets.proofs.RationalFlows.{loss, rational_values}
use Rattle.tb_outlets.proofs.Repaired.{at_most, most_of}
use Rattle.tb_outlets.proofs.Sides.{face_on_side}
use Rattle.tb_outlets.proofs.Trees.{tree}
use Rattle.tb_outlets.proofs.Uniqueness.{determined_in}

-- ---- a flux by the numbers of faces

by_number : Counts → Flux → ℕ → ℚ
by_number n q f = if nat_lt f (face_count n) then (let g = face_place n f in flow_at q g.axis g.place) else int (pos 0)

within_count : (n : Counts) (q : Flux) (f : ℕ) → f < face_count n → by_number n q f ≡ (let g = face_place n f in flow_at q g.axis g.place)
unfolding by_number
within_count n q f below = grind arith

past_count : (n : Counts) (q : Flux) (f : ℕ) → face_count n ≤ f → by_number n q f ≡ int (pos 0)
unfolding by_number
past_count n q f past = grind arith

at_place : (n : Counts) (q : Flux) (a : AxisName) (p : Place) → IsFace n a p → by_number n q (face_number n a p) ≡ flow_at q a p
at_place n q a p within =
    within_count n q (face_number n a p) (face_number_below n a p within)
    ∙ ap (λ (g : FacePlace). flow_at q g.axis g.place) (face_place_of_number n (record { axis = a; place = p }) within)

on_side : (n : Counts) (q : Flux) (p : Place) (s : Side) → IsCell n p → by_number n q (number_on n s p) ≡ flow_at q (axis_of s) (place_on s p)
on_side n q p s cell = at_place n q (axis_of s) (place_on s p) (face_on_side n p s cell)

-- what leaves the cell with a number
outflow_is : (n : Counts) (q : Flux) (c : ℕ) → let p = cell_place n c in IsCell n p → loss (face_of n) (by_number n q) c ≡ outflow q p.i p.j p.k
outflow_is n q c cell =
    let p = cell_place n c in
    rw (← add-one p.i, ← add-one p.j, ← add-one p.k)
    (λ t. (on_side n q p (High X) cell t -ℚ on_side n q p (Low X) cell t)
    +ℚ (on_side n q p (High Y) cell t -ℚ on_side n q p (Low Y) cell t)
    +ℚ (on_side n q p (High Z) cell t -ℚ on_side n q p (Low Z) cell t))

none_lost : (m : Mesh) (q : Flux) → IsBalanced m q → (c : ℕ) → IsSolidAt m c → loss (face_of m.cells) (by_number m.cells q) c ≡ int (pos 0)
none_lost m q balanced c here =
    let p = cell_place m.cells c in
    outflow_is m.cells q c here.1.0 ∙ balanced.cells p.i p.j p.k here.1.1.material here.1.0.0 here.1.0.1 here.1.0.2 here.1.1.fills

-- ---- one at the most

off_outlets : (m : Mesh) (given q r : Flux) (outlet : ℕ → Side) → AreOutlets m outlet → IsRepairedFlux m given q → IsRepairedFlux m given r →
    (f : ℕ) → ¬ IsOutlet (face_of m.cells) (IsSolidAt m) outlet f → by_number m.cells q f ≡ by_number m.cells r f
off_outlets m given q r outlet outlets first second f other = ⊎_elim
    (λ (below : f < face_count m.cells).
    within_count m.cells q f below ∙ by_kind below (carries (kind_of m f)) refl ∙ sym (within_count m.cells r f below))
    (λ (past : face_count m.cells ≤ f). past_count m.cells q f past ∙ sym (past_count m.cells r f past))
    (cases_lt f (face_count m.cells))
  where
    by_kind : f < face_count m.cells → (b : Bool) → carries (kind_of m f) ≡ b →
        let g = face_place m.cells f in flow_at q g.axis g.place ≡ flow_at r g.axis g.place
    by_kind below true is =
        let g = face_place m.cells f in
        let within = face_place_within m.cells f below in
        let none = λ (face : IsOutletFace m (face_number m.cells g.axis g.place)).
        other (face_is_outlet m outlet outlets f (subst (IsOutletFace m) (face_number_of_place m.cells f below) face)) in
        first.agrees g.axis g.place within is none ∙ sym (second.agrees g.axis g.place within is none)
    by_kind below false is =
        let g = face_place m.cells f in
        let within = face_place_within m.cells f below in
        first.rest g.axis g.place within is ∙ sym (second.rest g.axis g.place within is)

pub one_repaired_flux : (m : Mesh) (given q r : Flux) (outlet : ℕ → Side) (distance : ℕ → ℕ) → AreOutlets m outlet → AreDistances m distance →
    IsRepairedFlux m given q → IsRepairedFlux m given r → (a : AxisName) (p : Place) → IsFace m.cells a p → flow_at q a p ≡ flow_at r a p
one_repaired_flux m given q r outlet distance outlets distances first second a p within =
    let n = m.cells in
    sym (at_place n q a p within)
    ∙ determined_in (face_of n) (loss (face_of n)) (IsSolidAt m) outlet distance (most_of distance (cell_count n)) (by_number n q) (by_number n r)
    (rational_values (face_of n)) (tree m outlet distance outlets distances) (λ c here. at_most distance (cell_count n) c here.0)
    (off_outlets m given q r outlet outlets first second)
    (λ c here. none_lost m q first.balanced c here ∙ sym (none_lost m r second.balanced c here)) (face_number n a p)
    ∙ at_place n r a p within

-- ---- a repair of whole values is one

pub is_repaired_flux : (m : Mesh) (given values : List ℤ) → IsRepaired m given values →
    IsRepairedFlux m (flux_of m.cells given) (flux_of m.cells values)
is_repaired_flux m given values is = record {
  balanced = is.balanced;
  agrees = λ a p within carried none.
      ap int (is.agrees (face_number m.cells a p) (face_number_below m.cells a p within) (kind_there a p within ∙ carried) none);
  rest = λ a p within carried.
      ap int (is.rest (face_number m.cells a p) (face_number_below m.cells a p within) (kind_there a p within ∙ carried));
}
  where
    kind_there : (a : AxisName) (p : Place) → IsFace m.cells a p → carries (kind_of m (face_number m.cells a p)) ≡ carries (kind_at m a p)
    kind_there a p within = ap (λ (g : FacePlace). carries (kind_at m g.axis g.place)) (face_place_of_number m.cells (record { axis = a; place = p }) within)
