-- Where 1 enters a cell through one side and leaves it through another, the one flow more meets the other where the two
-- sides are opposite, and nothing else.
use Rattle.std.proofs.Common.{◌≡◌, ◌≢◌, ◌⊎◌, inl, inr, refl, sym, ap, ◌∙◌, subst, arith, ⊎_elim, ℕ, suc, ◌+◌, ◌<◌, List, [], ◌∷◌, Option, None, Some}
use Rattle.std.specs.Prelude.{neg_ℤ}
use lib.IntN.{ℤ, pos, ◌*ℤ◌}
use Rattle.tb_math.proofs.ReadIntegers.{by_reading, reading}
use Rattle.tb_places.specs.declared.AxisName.{AxisName}
use Rattle.tb_places.specs.declared.AxisName.TheVariants.{X, Y, Z}
use Rattle.tb_places.specs.declared.Place.{Place}
use Rattle.tb_places.specs.Along.{ahead, index_along, place_along}
use Rattle.tb_places.specs.Inverse.{cell_place}
use Rattle.tb_places.specs.Places.{Counts, IsCell, along, cell_number, face_number, second, third}
use Rattle.tb_places.proofs.Cells.{cell_number_below, cell_place_of_number}
use Rattle.tb_detail.specs.declared.Content.{Content}
use Rattle.tb_detail.specs.declared.Content.TheVariants.{Solid, Air}
use Rattle.tb_model.specs.Mesh.{Mesh}
use Rattle.tb_model.specs.Energy.{Case, of_solid}
use Rattle.tb_walk.specs.Isolated.{IsSolidCell}
use Rattle.tb_outlets.specs.declared.side.Side.{Side}
use Rattle.tb_outlets.specs.declared.side.Side.TheVariants.{Low, High}
use Rattle.tb_outlets.specs.Balancing.{flow}
use Rattle.tb_outlets.specs.Cycles.{IsOutward, opposite, out}
use Rattle.tb_outlets.specs.Flows.{IsTree}
use Rattle.tb_outlets.specs.Outlets.{IsSolidAt}
use Rattle.tb_outlets.specs.Sides.{IsBeyond, axis_of, face_of, number_on, place_on}
use Rattle.tb_outlets.proofs.MeshCycles.{meets_at}
use Rattle.tb_weighted.specs.Flows.{FlowForms}
use Rattle.tb_weighted.specs.OnMesh.{IsFlowFormOf, mesh_flux_cell}
use Rattle.tb_cycles.specs.Moves.{flows_through}
use Rattle.tb_cycle_moves.specs.Reaches.{IsMet}
use Rattle.tb_cycle_moves.proofs.Crossing.{crossing_high, crossing_low}
use Rattle.tb_cycle_moves.proofs.Directions.{crossing}
use Rattle.tb_cycle_moves.proofs.Passing.{IsPassing}

-- ---- places and their indexes along an axis
pub place_again : (a : AxisName) (p : Place) → place_along a (index_along a p) (index_along (second a) p) (index_along (third a) p) ≡ p
place_again X p = refl
place_again Y p = refl
place_again Z p = refl

up : (i : ℕ) → suc i ≡ i + 1
up i = omega arith

pub ahead_again : (a : AxisName) (p : Place) → place_along a (suc (index_along a p)) (index_along (second a) p) (index_along (third a) p) ≡ ahead a 1 p
ahead_again X p = ap (λ (i : ℕ). place_along X i p.j p.k) (up p.i)
ahead_again Y p = ap (λ (i : ℕ). place_along Y i p.i p.k) (up p.j)
ahead_again Z p = ap (λ (i : ℕ). place_along Z i p.i p.j) (up p.k)

pub index_ahead : (a : AxisName) (p : Place) → index_along a (ahead a 1 p) ≡ suc (index_along a p)
index_ahead X p = sym (up p.i)
index_ahead Y p = sym (up p.j)
index_ahead Z p = sym (up p.k)

pub second_ahead : (a : AxisName) (p : Place) → index_along (second a) (ahead a 1 p) ≡ index_along (second a) p
second_ahead X p = refl
second_ahead Y p = refl
second_ahead Z p = refl

pub third_ahead : (a : AxisName) (p : Place) → index_along (third a) (ahead a 1 p) ≡ index_along (third a) p
third_ahead X p = refl
third_ahead Y p = refl
third_ahead Z p = refl

pub flow_through : (n : Counts) (flows : List ℤ) (a : AxisName) (i j k : ℕ) → along a (flows_through n flows a) i j k ≡ flow flows (face_number n a (place_along a i j k))
flow_through n flows X i j k = refl
flow_through n flows Y i j k = refl
flow_through n flows Z i j k = refl

-- the indexes of a cell
pub record HasIndexes (n : Counts) (a : AxisName) (p : Place) : Type 0 where
  pub first : index_along a p < n a
  pub other : index_along (second a) p < n (second a)
  pub last : index_along (third a) p < n (third a)

pub indexes : (n : Counts) (a : AxisName) (p : Place) → IsCell n p → HasIndexes n a p
indexes n X p cell = record { first = cell.0; other = cell.1; last = cell.2 }
indexes n Y p cell = record { first = cell.1; other = cell.0; last = cell.2 }
indexes n Z p cell = record { first = cell.2; other = cell.0; last = cell.1 }

cell_of : (n : Counts) (a : AxisName) (i j k : ℕ) → i < n a → j < n (second a) → k < n (third a) → IsCell n (place_along a i j k)
cell_of n X i j k hi hj hk = (hi, hj, hk)
cell_of n Y i j k hi hj hk = (hj, hi, hk)
cell_of n Z i j k hi hj hk = (hj, hk, hi)

-- ---- a cell is solid, or its weight is 0
solid_or_none : (w : ℕ → ℤ) (x : Option Content) → ((n : ℕ) × (x ≡ Some (Solid n))) ⊎ (of_solid (pos 0) w x ≡ pos 0)
solid_or_none w None = inr refl
solid_or_none w (Some (Solid n)) = inl (n, refl)
solid_or_none w (Some (Air e r)) = inr refl

filling : (m : Mesh) (a : AxisName) (i j k : ℕ) → let p = place_along a i j k in along a m.occupant i j k ≡ m.occupant p.i p.j p.k
filling m X i j k = refl
filling m Y i j k = refl
filling m Z i j k = refl

nothing_times : (x y : ℤ) → x ≡ pos 0 → x *ℤ y ≡ pos 0
nothing_times x y e = rw e (by_reading {atoms = y ∷ []} (search reading) (search reading) refl)

times_nothing : (x y : ℤ) → y ≡ pos 0 → x *ℤ y ≡ pos 0
times_nothing x y e = rw e (by_reading {atoms = x ∷ []} (search reading) (search reading) refl)

-- nothing flows on the far side of a solid cell beyond a side
abbrev pub IsFarFree : Mesh → List ℤ → Place → Side → Type 0
IsFarFree m values p o = (q : Place) → IsBeyond o p q → IsSolidCell m q → flow values (number_on m.cells o q) ≡ pos 0

turned_differs : (o : Side) → opposite o ≢ o
turned_differs (Low a) e = cc
turned_differs (High a) e = cc

pub far_free : (m : Mesh) (outlet : ℕ → Side) (rank : ℕ → ℕ) (values : List ℤ) (c : ℕ) (s : Side) (rest : List ℕ) → IsTree (face_of m.cells) (IsSolidAt m) outlet rank → IsSolidAt m c →
    IsPassing (face_of m.cells) (IsSolidAt m) rank values c s → IsOutward (face_of m.cells) (IsSolidAt m) outlet c rest → IsFarFree m values (cell_place m.cells c) (outlet c)
far_free m outlet rank values c s rest tree here passing leads q beyond solid = on rest leads
  where
    n : Counts
    n = m.cells

    d : ℕ
    d = cell_number n q

    at : cell_place n d ≡ q
    at = cell_place_of_number n q solid.0

    there : IsSolidAt m d
    there = (cell_number_below n q solid.0, subst (IsSolidCell m) (sym at) solid)

    meets : face_of n d (opposite (outlet c)) ≡ face_of n c (outlet c)
    meets = ap (number_on n (opposite (outlet c))) at ∙ meets_at n (outlet c) (cell_place n c) q beyond

    not_here : d ≡ c → ⊥
    not_here same = turned_differs (outlet c) (tree.apart c (opposite (outlet c)) (outlet c) here (ap (λ (x : ℕ). face_of n x (opposite (outlet c))) (sym same) ∙ meets))

    on : (es : List ℕ) → IsOutward (face_of n) (IsSolidAt m) outlet c es → flow values (number_on n (outlet c) q) ≡ pos 0
    on [] away = absurd (not_here (away d (opposite (outlet c)) there meets))
    on (e ∷ es) (to, after) = ⊎_elim
        (λ (same : d ≡ c). absurd (not_here same))
        (λ (same : d ≡ e).
        let falls : rank e < rank c = tree.inwards e c (opposite (outlet c)) to.in_set here (λ x. to.other (sym x)) to.meets in
        ap (λ (p : Place). flow values (number_on n (outlet c) p)) (sym at) ∙ passing.ahead d (outlet c) there (subst (λ (x : ℕ). rank x < rank c) (sym same) falls))
        (to.alone d (opposite (outlet c)) there meets)

-- ---- the bend
one_met : (v g o : ℤ) → g ≡ neg_ℤ (neg_ℤ o) → o *ℤ o ≡ pos 1 → o *ℤ (v *ℤ g) ≡ v
one_met v g o e h = rw e (by_reading {atoms = v ∷ o ∷ []} {b = (o *ℤ o) *ℤ v} (search reading depth 40 fits 20000) (search reading depth 40 fits 20000) refl ∙ ap (λ (z : ℤ). z *ℤ v) h ∙ by_reading {atoms = v ∷ []} (search reading) (search reading) refl)

none_met : (v g o : ℤ) → g ≡ pos 0 → o *ℤ (v *ℤ g) ≡ pos 0
none_met v g o e = rw e (by_reading {atoms = v ∷ o ∷ []} (search reading) (search reading) refl)

pub out_squared : (o : Side) → out o *ℤ out o ≡ pos 1
out_squared (Low a) = refl
out_squared (High a) = refl

turned_twice : (o : Side) → neg_ℤ (out (opposite o)) ≡ neg_ℤ (neg_ℤ (out o))
turned_twice (Low a) = refl
turned_twice (High a) = refl

module _ (m : Mesh) (inside : Case) (f : FlowForms) (form : IsFlowFormOf m inside f) (values : List ℤ) where
  -- beyond, either nothing flows or nothing weighs
  beyond_none : (a : AxisName) (i j k : ℕ) (x : ℤ) → i < f.cells a → j < f.cells (second a) → k < f.cells (third a) → (IsSolidCell m (place_along a i j k) → x ≡ pos 0) → f.cell a i j k *ℤ x ≡ pos 0
  beyond_none a i j k x hi hj hk none = ⊎_elim
      (λ (is : (w : ℕ) × (along a m.occupant i j k ≡ Some (Solid w))).
      times_nothing (f.cell a i j k) x (none (cell_of m.cells a i j k hi' hj' hk', record { material = is.0; fills = sym (filling m a i j k) ∙ is.1 })))
      (λ (z : weight ≡ pos 0). nothing_times (f.cell a i j k) x (form.cell a i j k hi' hj' hk' ∙ z))
      (solid_or_none _ (along a m.occupant i j k))
    where
      weight : ℤ
      weight = mesh_flux_cell m a i j k

      hi' : i < m.cells a
      hi' = subst (λ (n : Counts). i < n a) form.cells hi

      hj' : j < m.cells (second a)
      hj' = subst (λ (n : Counts). j < n (second a)) form.cells hj

      hk' : k < m.cells (third a)
      hk' = subst (λ (n : Counts). k < n (third a)) form.cells hk

  abbrev n : Counts
  n = m.cells

  cross_at : (o : Side) (p : Place) → IsCell f.cells p → flow values (number_on n o p) ≡ pos 0 → IsFarFree m values p o →
      let a = axis_of o in let q = place_on o p in
      crossing f (flows_through n values) a (index_along a q) (index_along (second a) q) (index_along (third a) q)
      ≡ f.cell a (index_along a p) (index_along (second a) p) (index_along (third a) p) *ℤ flow values (number_on n (opposite o) p)
  cross_at (Low a) p cell none far =
      let within = indexes f.cells a p cell in
      crossing_low f (flows_through n values) a (index_along a p) (index_along (second a) p) (index_along (third a) p) within.first within.other within.last
      (flow_through n values a (index_along a p) (index_along (second a) p) (index_along (third a) p) ∙ ap (λ (q : Place). flow values (face_number n a q)) (place_again a p) ∙ none)
      (λ h e. beyond_none a h (index_along (second a) p) (index_along (third a) p) _ (let w = within.first in omega (arith, e)) within.other within.last
      (λ solid. flow_through n values a h (index_along (second a) p) (index_along (third a) p)
      ∙ far (place_along a h (index_along (second a) p) (index_along (third a) p)) (next a h (index_along (second a) p) (index_along (third a) p) ∙ ap (λ (i : ℕ). place_along a i (index_along (second a) p) (index_along (third a) p)) (sym e) ∙ place_again a p) solid))
      ∙ ap (λ (x : ℤ). f.cell a (index_along a p) (index_along (second a) p) (index_along (third a) p) *ℤ x)
      (flow_through n values a (suc (index_along a p)) (index_along (second a) p) (index_along (third a) p) ∙ ap (λ (q : Place). flow values (face_number n a q)) (ahead_again a p))
    where
      next : (a : AxisName) (i j k : ℕ) → ahead a 1 (place_along a i j k) ≡ place_along a (suc i) j k
      next X i j k = ap (λ (x : ℕ). place_along X x j k) (sym (up i))
      next Y i j k = ap (λ (x : ℕ). place_along Y x j k) (sym (up i))
      next Z i j k = ap (λ (x : ℕ). place_along Z x j k) (sym (up i))
  cross_at (High a) p cell none far =
      let within = indexes f.cells a p cell in
      let i = index_along a p in
      let j = index_along (second a) p in
      let k = index_along (third a) p in
      shown a p
      ∙ crossing_high f (flows_through n values) a i j k within.first within.other within.last
      (flow_through n values a (suc i) j k ∙ ap (λ (q : Place). flow values (face_number n a q)) (ahead_again a p) ∙ none)
      (λ l. beyond_none a (suc i) j k _ l within.other within.last
      (λ solid. flow_through n values a (suc (suc i)) j k
      ∙ ap (λ (q : Place). flow values (face_number n a q)) (twice a p)
      ∙ far (ahead a 1 p) refl (subst (IsSolidCell m) (ahead_again a p) solid)))
      ∙ ap (λ (x : ℤ). f.cell a i j k *ℤ x) (flow_through n values a i j k ∙ ap (λ (q : Place). flow values (face_number n a q)) (place_again a p))
    where
      shown : (a : AxisName) (p : Place) → let q = ahead a 1 p in
          crossing f (flows_through n values) a (index_along a q) (index_along (second a) q) (index_along (third a) q)
          ≡ crossing f (flows_through n values) a (suc (index_along a p)) (index_along (second a) p) (index_along (third a) p)
      shown X p = ap (λ (i : ℕ). crossing f (flows_through n values) X i p.j p.k) (sym (up p.i))
      shown Y p = ap (λ (i : ℕ). crossing f (flows_through n values) Y i p.i p.k) (sym (up p.j))
      shown Z p = ap (λ (i : ℕ). crossing f (flows_through n values) Z i p.i p.j) (sym (up p.k))

      twice : (a : AxisName) (p : Place) → place_along a (suc (suc (index_along a p))) (index_along (second a) p) (index_along (third a) p) ≡ ahead a 1 (ahead a 1 p)
      twice X p = ap (λ (i : ℕ). place_along X (suc i) p.j p.k) (up p.i) ∙ ap (λ (i : ℕ). place_along X i p.j p.k) (up (p.i + 1))
      twice Y p = ap (λ (i : ℕ). place_along Y (suc i) p.i p.k) (up p.j) ∙ ap (λ (i : ℕ). place_along Y i p.i p.k) (up (p.j + 1))
      twice Z p = ap (λ (i : ℕ). place_along Z (suc i) p.i p.j) (up p.k) ∙ ap (λ (i : ℕ). place_along Z i p.i p.j) (up (p.k + 1))

  pub bend_is : (rank : ℕ → ℕ) (c : ℕ) (s o : Side) → IsCell f.cells (cell_place n c) → IsPassing (face_of n) (IsSolidAt m) rank values c s → flow values (face_of n c o) ≡ pos 0 → IsFarFree m values (cell_place n c) o →
      let p = cell_place n c in let a = axis_of o in let q = place_on o p in
      IsMet s o (f.cell a (index_along a p) (index_along (second a) p) (index_along (third a) p))
      (out o *ℤ crossing f (flows_through n values) a (index_along a q) (index_along (second a) q) (index_along (third a) q))
  bend_is rank c s o cell passing free far =
      let p = cell_place n c in
      let a = axis_of o in
      let v = f.cell a (index_along a p) (index_along (second a) p) (index_along (third a) p) in
      let is = ap (λ (x : ℤ). out o *ℤ x) (cross_at o p cell free far) in
      record {
        straight = λ same. is ∙ one_met v (flow values (number_on n (opposite o) p)) (out o)
            (subst (λ (t : Side). flow values (face_of n c t) ≡ neg_ℤ (out t)) same passing.enters ∙ turned_twice o) (out_squared o);
        round = λ other. is ∙ none_met v (flow values (number_on n (opposite o) p)) (out o) (passing.others (opposite o) (λ same. other (sym same)));
      }
