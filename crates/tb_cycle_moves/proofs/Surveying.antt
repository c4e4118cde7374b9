-- A walk along a cycle: what was passed of it so far is a flow, whose slope, rate and range are known.
use Rattle.std.proofs.Common.{◌≡◌, ◌≢◌, ◌↔◌, refl, sym, ap, ◌∙◌, subst, arith, ⊎_elim, ℕ, ◌<◌, List, [], ◌∷◌, length, get_or-set_other, get_or-set_same}
use Rattle.std.specs.Prelude.{slice_set}
use Rattle.std.proofs.lemmas.Bool.{cases_eq}
use Rattle.std.proofs.Math.IntN.{ℤ_discrete}
use lib.IntN.{ℤ, pos, ◌+ℤ◌, ◌*ℤ◌}
use Rattle.tb_math.proofs.ReadIntegers.{by_reading, reading}
use Rattle.tb_places.specs.declared.AxisName.{AxisName}
use Rattle.tb_places.specs.declared.Place.{Place}
use Rattle.tb_places.specs.Along.{index_along, place_along}
use Rattle.tb_places.specs.Inverse.{cell_place}
use Rattle.tb_places.specs.Places.{Counts, IsCell, IsFace, face_number, second, third}
use Rattle.tb_model.specs.Mesh.{Mesh}
use Rattle.tb_outlets.specs.declared.marks.Mark.{Mark}
use Rattle.tb_outlets.specs.declared.side.Side.{Side}
use Rattle.tb_outlets.specs.Balancing.{flow, side_at}
use Rattle.tb_outlets.specs.Cycles.{IsOutward, carry, carry_all, opposite, out}
use Rattle.tb_outlets.specs.Flows.{IsTree}
use Rattle.tb_outlets.specs.Outlets.{IsSolidAt}
use Rattle.tb_outlets.specs.Searching.{distance_at}
use Rattle.tb_outlets.specs.Sides.{axis_of, face_of, place_on}
use Rattle.tb_outlets.proofs.Carrying.{IsOnWay, next_on_way}
use Rattle.tb_outlets.proofs.Sides.{face_on_side}
use Rattle.tb_outlets.proofs.Trees.{tree}
use Rattle.tb_weighted.specs.Flows.{flow_rate, flow_slope, flows_of}
use Rattle.tb_weighted.specs.Limits.{InFlow}
use Rattle.tb_relax.specs.declared.joining.Reach.{Reach}
use Rattle.tb_relax.specs.declared.table.Table.{Table}
use Rattle.tb_relax.specs.Tables.{flux_forms, table_counts}
use Rattle.tb_cycles.specs.Moves.{flows_through}
use Rattle.tb_cycles.specs.Ways.{IsLast, IsNext, LeadOut}
use Rattle.tb_cycles.proofs.Outward.{IsFollowed, followed, nothing_left}
use Rattle.tb_cycle_moves.specs.Courses.{IsReachOf}
use Rattle.tb_cycle_moves.specs.Reaches.{IsMet, IsPassed, rate_at, slope_at}
use Rattle.tb_cycle_moves.proofs.Bends.{bend_is, far_free, out_squared, place_again}
use Rattle.tb_cycle_moves.proofs.Directions.{crossing, rate_more, slope_more}
use Rattle.tb_cycle_moves.proofs.Passing.{IsPassing, next_passing}

-- ---- one flow more through the face at a place
module _ (t : Table) (a : AxisName) (q : Place) where
  abbrev i : ℕ
  i = index_along a q

  abbrev j : ℕ
  j = index_along (second a) q

  abbrev k : ℕ
  k = index_along (third a) q

  face_again : (n : Counts) → IsFace n a q → IsFace n a (place_along a i j k)
  face_again n face = subst (λ (p : Place). IsFace n a p) (sym (place_again a q)) face

  number_again : (n : Counts) → face_number n a (place_along a i j k) ≡ face_number n a q
  number_again n = ap (face_number n a) (place_again a q)

  abbrev pub SlopeAdds : (old part : List ℤ) (x : ℤ) → Counts → Type 0
  SlopeAdds old part x n = IsFace n a q → face_number n a q < length part → flow part (face_number n a q) ≡ pos 0 →
      flow_slope (flux_forms t) (flows_of n old) (flows_through n (slice_set part (face_number n a q) x)) ≡ flow_slope (flux_forms t) (flows_of n old) (flows_through n part) +ℤ x *ℤ slope_at t old a q

  slope_adds_here : (old part : List ℤ) (x : ℤ) → SlopeAdds old part x (table_counts t)
  unfolding flux_forms
  slope_adds_here old part x face below none =
      let n = table_counts t in
      subst (λ (at : ℕ). flow_slope (flux_forms t) (flows_of n old) (flows_through n (slice_set part at x)) ≡ flow_slope (flux_forms t) (flows_of n old) (flows_through n part) +ℤ x *ℤ slope_at t old a q) (number_again n)
      (slope_more (flux_forms t) part x a i j k (face_again n face) (subst (λ (at : ℕ). at < length part) (sym (number_again n)) below) (ap (flow part) (number_again n) ∙ none) (flows_of n old))

  pub slope_adds : (old part : List ℤ) (x : ℤ) (n : Counts) → table_counts t ≡ n → SlopeAdds old part x n
  slope_adds old part x n same = subst (SlopeAdds old part x) same (slope_adds_here old part x)

  abbrev pub RateAdds : (part : List ℤ) (x : ℤ) → Counts → Type 0
  RateAdds part x n = IsFace n a q → face_number n a q < length part → flow part (face_number n a q) ≡ pos 0 →
      flow_rate (flux_forms t) (flows_through n (slice_set part (face_number n a q) x)) ≡ (flow_rate (flux_forms t) (flows_through n part) +ℤ x *ℤ crossing (flux_forms t) (flows_through n part) a i j k) +ℤ (x *ℤ x) *ℤ rate_at t a q

  rate_adds_here : (part : List ℤ) (x : ℤ) → RateAdds part x (table_counts t)
  unfolding flux_forms
  rate_adds_here part x face below none =
      let n = table_counts t in
      subst (λ (at : ℕ). flow_rate (flux_forms t) (flows_through n (slice_set part at x)) ≡ (flow_rate (flux_forms t) (flows_through n part) +ℤ x *ℤ crossing (flux_forms t) (flows_through n part) a i j k) +ℤ (x *ℤ x) *ℤ rate_at t a q) (number_again n)
      (rate_more (flux_forms t) part x a i j k (face_again n face) (subst (λ (at : ℕ). at < length part) (sym (number_again n)) below) (ap (flow part) (number_again n) ∙ none))

  pub rate_adds : (part : List ℤ) (x : ℤ) (n : Counts) → table_counts t ≡ n → RateAdds part x n
  rate_adds part x n same = subst (RateAdds part x) same (rate_adds_here part x)

-- ---- the range
no_flow : (o x p : ℤ) → p ≡ pos 0 → o +ℤ x *ℤ p ≡ o
no_flow o x p e = rw e (by_reading {atoms = o ∷ x ∷ []} (search reading) (search reading) refl)

abbrev pub KeepAll : List ℤ → List ℤ → ℤ → Type 0
KeepAll old change x = (g : ℕ) → InFlow (flow old g +ℤ x *ℤ flow change g)

module _ (old part : List ℤ) (at : ℕ) (z : ℤ) (below : at < length part) (none : flow part at ≡ pos 0) (here : InFlow (flow old at)) where
  pub keeps_more : (x : ℤ) → KeepAll old (slice_set part at z) x ↔ (KeepAll old part x × InFlow (flow old at +ℤ x *ℤ z))
  keeps_more x = (
    λ all. (
      λ g. ⊎_elim
          (λ (same : g ≡ at). subst (λ (v : ℕ). InFlow (flow old v +ℤ x *ℤ flow part v)) (sym same) (subst InFlow (sym (no_flow (flow old at) x (flow part at) none)) here))
          (λ (other : g ≢ at). subst (λ (v : ℤ). InFlow (flow old g +ℤ x *ℤ v)) (get_or-set_other part at g z (pos 0) other) (all g))
          (cases_eq g at),
      subst (λ (v : ℤ). InFlow (flow old at +ℤ x *ℤ v)) (get_or-set_same part at z (pos 0) below) (all at),
    ),
    λ both g. ⊎_elim
        (λ (same : g ≡ at). subst (λ (v : ℕ). InFlow (flow old v +ℤ x *ℤ flow (slice_set part at z) v)) (sym same) (subst (λ (v : ℤ). InFlow (flow old at +ℤ x *ℤ v)) (sym (get_or-set_same part at z (pos 0) below)) both.1))
        (λ (other : g ≢ at). subst (λ (v : ℤ). InFlow (flow old g +ℤ x *ℤ v)) (sym (get_or-set_other part at g z (pos 0) other)) (both.0 g))
        (cases_eq g at),
  )

-- ---- what the way through a cell adds is one number
one_is_met : (s o : Side) (w x y : ℤ) → IsMet s o w x → IsMet s o w y → x ≡ y
one_is_met s o w x y first second = by_test (ℤ_discrete x y)
  where
    by_test : Dec (x ≡ y) → x ≡ y
    by_test (yes same) = same
    by_test (no differ) =
        let other : s ≢ opposite o = λ same. differ (first.straight same ∙ sym (second.straight same)) in
        first.round other ∙ sym (second.round other)

adds_up : (r y b s m w q : ℤ) → r ≡ s +ℤ y → y ≡ b +ℤ m → m ≡ w → q ≡ pos 1 → r ≡ (s +ℤ w) +ℤ q *ℤ b
adds_up r y b s m w q e f g h = e ∙ ap (λ (z : ℤ). s +ℤ z) f ∙ rw (g, h) (by_reading {atoms = s ∷ b ∷ w ∷ []} (search reading) (search reading) refl)

-- ---- the state on the way
pub record IsUnderWay (m : Mesh) (marks : List Mark) (sides : List Side) (t : Table) (old whole : List ℤ) (c : ℕ) (s : Side) (r : Reach) : Type 0 where
  pub part : List ℤ
  pub rest : List ℕ
  pub way : IsOnWay (face_of m.cells) (IsSolidAt m) (side_at sides) (distance_at marks) part c
  pub outward : IsOutward (face_of m.cells) (IsSolidAt m) (side_at sides) c rest
  pub ends : carry_all (face_of m.cells) (side_at sides) part c rest ≡ whole
  pub passing : IsPassing (face_of m.cells) (IsSolidAt m) (distance_at marks) part c s
  pub reach : IsReachOf m t old part r

module _ (m : Mesh) (marks : List Mark) (sides : List Side) (leads : LeadOut m marks sides) (t : Table) (same : table_counts t ≡ m.cells) (old whole : List ℤ) (limits : (g : ℕ) → InFlow (flow old g))
    (c : ℕ) (s : Side) (r next : Reach) (is : IsUnderWay m marks sides t old whole c s r) (passed : IsPassed m.cells t old (cell_place m.cells c) s (side_at sides c) r next) where
  abbrev n : Counts
  n = m.cells

  abbrev o : Side
  o = side_at sides c

  abbrev p : Place
  p = cell_place n c

  abbrev at : ℕ
  at = face_of n c o

  here : IsSolidAt m c
  here = is.way.here

  face : IsFace n (axis_of o) (place_on o p)
  face = face_on_side n p o here.1.0

  below : at < length is.part
  below = is.way.below c here

  none : flow is.part at ≡ pos 0
  none = is.way.free c here (omega arith)

  is_tree : IsTree (face_of n) (IsSolidAt m) (side_at sides) (distance_at marks)
  is_tree = tree m (side_at sides) (distance_at marks) leads.outlets leads.distances

  pub reach_passed : IsReachOf m t old (carry (face_of n) (side_at sides) is.part c) next
  unfolding flux_forms
  reach_passed = record {
    slope = passed.slope ∙ ap (λ (z : ℤ). z +ℤ out o *ℤ slope_at t old (axis_of o) (place_on o p)) is.reach.slope
        ∙ sym (slope_adds t (axis_of o) (place_on o p) old is.part (out o) n same face below none);
    within = λ x.
        let more = keeps_more old is.part at (out o) below none (limits at) x in (
          λ in_range. more.1 ((is.reach.within x).0 ((passed.within x).0 in_range).0, ((passed.within x).0 in_range).1),
          λ all. (passed.within x).1 ((is.reach.within x).1 (more.0 all).0, (more.0 all).1),
        );
    rate = λ inside of.
        let bend = bend_is m inside (flux_forms t) of.flux is.part (distance_at marks) c s o (subst (λ (k : Counts). IsCell k p) (sym same) here.1.0) is.passing none
        (far_free m (side_at sides) (distance_at marks) is.part c s is.rest is_tree here is.passing is.outward) in
        adds_up next.pull.rate passed.more _ _ passed.met.met _ (out o *ℤ out o) (passed.rate ∙ ap (λ (z : ℤ). z +ℤ passed.more) (is.reach.rate inside of)) passed.met.adds
        (one_is_met s o _ _ _ passed.met.is_met bend) (out_squared o)
        ∙ sym (rate_adds t (axis_of o) (place_on o p) is.part (out o) n same face below none);
  }

  pub step_under_way : (d : ℕ) → IsNext n marks sides c d → IsUnderWay m marks sides t old whole d (opposite o) next
  step_under_way d further = on_rest is.rest is.outward is.ends
    where
      there : IsFollowed m marks sides c d
      there = followed m marks sides leads c d here further

      on_rest : (es : List ℕ) → IsOutward (face_of n) (IsSolidAt m) (side_at sides) c es → carry_all (face_of n) (side_at sides) is.part c es ≡ whole →
          IsUnderWay m marks sides t old whole d (opposite o) next
      on_rest [] away ends = absurd (there.leads.other (sym (away d (opposite (side_at sides c)) there.leads.in_set there.leads.meets)))
      on_rest (e ∷ es) (to, rest) ends =
          let one : e ≡ d = ⊎_elim
          (λ (x : e ≡ c). absurd (to.other (sym x)))
          (λ (x : e ≡ d). x)
          (there.leads.alone e (opposite (side_at sides c)) to.in_set to.meets) in
          subst (λ (x : ℕ). IsUnderWay m marks sides t old whole x (opposite o) next) one (record {
            part = carry (face_of n) (side_at sides) is.part c;
            rest = es;
            way = next_on_way (face_of n) (IsSolidAt m) (side_at sides) (distance_at marks) is.part c e is_tree is.way to;
            outward = rest;
            ends = ends;
            passing = next_passing (face_of n) (IsSolidAt m) (side_at sides) (distance_at marks) is.part c e s is_tree is.way to is.passing;
            reach = reach_passed;
          })

  pub end_under_way : IsLast n marks sides c → IsReachOf m t old whole next
  end_under_way last =
      let nothing = nothing_left m marks sides leads c here last is.rest is.outward in
      let ends : carry (face_of n) (side_at sides) is.part c ≡ whole =
      subst (λ (es : List ℕ). carry_all (face_of n) (side_at sides) is.part c es ≡ whole) nothing is.ends in
      subst (λ (l : List ℤ). IsReachOf m t old l next) ends reach_passed
