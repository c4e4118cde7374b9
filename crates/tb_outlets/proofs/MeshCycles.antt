-- The cycles of a mesh: 1 carried along the way of outlets.
use Rattle.std.proofs.Common.{◌≡◌, ◌≢◌, inl, inr, ℕ, zero, suc, ◌<◌, ◌≤◌, List, [], ◌∷◌, length, arith, refl, sym, ap, subst, ◌∙◌, ⊎_elim, get_or-set_other, get_or-set_same}
use Rattle.std.specs.Prelude.{ℤ, pos, negsuc, neg_ℤ, slice_set, Contains}
use Rattle.std.proofs.lemmas.Int.{ints}
use Rattle.std.proofs.lemmas.Bool.{cases_eq, cases_lt}
use Rattle.std.proofs.lemmas.List.{ext_get_or, get_or_past, length-replicate}
use Rattle.std.proofs.Math.ListN.{length-set, replicate}
use Rattle.tb_places.specs.declared.AxisName.TheVariants.{X, Y, Z}
use Rattle.tb_places.specs.declared.Place.{Place}
use Rattle.tb_places.specs.Inverse.{cell_place}
use Rattle.tb_places.specs.Places.{Counts, place_at, cell_count, cell_number, face_count}
use Rattle.tb_places.proofs.Cells.{cell_number_below, cell_number_of_place, cell_place_of_number}
use Rattle.tb_places.specs.Places.{face_number}
use Rattle.tb_model.specs.Mesh.{Mesh}
use Rattle.tb_walk.specs.Isolated.{IsSolidCell, IsSurface}
use Rattle.tb_outlets.specs.declared.side.Side.{Side}
use Rattle.tb_outlets.specs.declared.side.Side.TheVariants.{Low, High}
use Rattle.tb_outlets.specs.Flows.{Sides, Flow, net}
use Rattle.tb_outlets.specs.Balancing.{flow}
use Rattle.tb_outlets.specs.Cycles.{IsOutward, LeadsTo, carry, carry_all, opposite, out}
use Rattle.tb_outlets.specs.Sides.{IsBeyond, face_of, kind_on, number_on}
use Rattle.tb_outlets.specs.Outlets.{AreDistances, AreOutlets, IsDistance, IsFirstNearer, IsRoot, IsSolidAt, LeadsNearer}
use Rattle.tb_outlets.proofs.Carrying.{IsOnWay, carried_balances, carried_elsewhere, carried_first, carried_rest}
use Rattle.tb_outlets.proofs.Sides.{face_between, faces_apart, number_below, one_beyond}
use Rattle.tb_math.specs.Rational.{int}
use Rattle.std.proofs.lemmas.Bool.{true≢false}
use Rattle.tb_model.specs.declared.FaceKind.TheVariants.{Shut}
use Rattle.tb_outlets.specs.Flows.{AgreesOff}
use Rattle.tb_outlets.specs.Repair.{IsCycle, IsOutletFace, carries, kind_of}
use Rattle.tb_outlets.proofs.Balanced.{nothing_lost}
use Rattle.tb_outlets.proofs.OneOutlet.{face_is_outlet, kind_of_number, outlet_carries, outlet_is_face}
use Rattle.tb_outlets.proofs.Repaired.{at_most, balanced_at, kind_on_line, most_of}
use Rattle.tb_outlets.proofs.Uniqueness.{determined}
use Rattle.tb_outlets.proofs.Trees.{no_surface_between, one_distance, tree}

-- ---- the way of outlets

pub same_number : (n : Counts) (c d : ℕ) → cell_place n c ≡ cell_place n d → c ≡ d
same_number n c d same =
    sym (cell_number_of_place n c) ∙ ap (cell_number n) same ∙ cell_number_of_place n d

-- another cell with the face on a side of c lies beyond it
pub beyond_face : (m : Mesh) (c d : ℕ) (s t : Side) → IsSolidAt m c → IsSolidAt m d → d ≢ c → face_of m.cells d s ≡ face_of m.cells c t →
    IsBeyond t (cell_place m.cells c) (cell_place m.cells d)
beyond_face m c d s t here there other same =
    face_between m.cells (cell_place m.cells d) (cell_place m.cells c) s t there.1.0 here.1.0 (λ e. other (same_number m.cells d c e)) same

-- a Surface is on a side of one solid cell
pub on_one : (m : Mesh) (c d : ℕ) (s t : Side) → IsSolidAt m c → IsSolidAt m d → IsSurface (kind_on m t (cell_place m.cells c)) →
    face_of m.cells d s ≡ face_of m.cells c t → d ≡ c
on_one m c d s t here there surface same = ⊎_elim
    (λ (e : d ≡ c). e)
    (λ (other : d ≢ c). absurd (no_surface_between m t (cell_place m.cells c) (cell_place m.cells d) (beyond_face m c d s t here there other same) here.1 there.1 surface))
    (cases_eq d c)

pub meets_at : (n : Counts) (s : Side) (p q : Place) → IsBeyond s p q → number_on n (opposite s) q ≡ number_on n s p
meets_at n (Low a) p q beyond = ap (face_number n a) beyond
meets_at n (High a) p q beyond = ap (face_number n a) (sym beyond)

pub leads_to : (m : Mesh) (outlet : ℕ → Side) (c : ℕ) → IsSolidAt m c → (leads : LeadsNearer m (cell_place m.cells c) (outlet c)) →
    let q = leads.next in LeadsTo (face_of m.cells) (IsSolidAt m) outlet c (cell_number m.cells q)
leads_to m outlet c here leads =
    let n = m.cells in
    let q = leads.next in
    let e = cell_number n q in
    let at : cell_place n e ≡ q = cell_place_of_number n q leads.solid.0 in
    let there : IsSolidAt m e = (cell_number_below n q leads.solid.0, subst (IsSolidCell m) (sym at) leads.solid) in
    let beyond : IsBeyond (outlet c) (cell_place n c) (cell_place n e) = subst (IsBeyond (outlet c) (cell_place n c)) (sym at) leads.beyond in
    record {
      in_set = there;
      other = λ same.
          let one = one_distance m (cell_place n c) leads.from leads.to leads.from_here (subst (λ (p : Place). IsDistance m p leads.to) (sym at ∙ ap (cell_place n) (sym same)) leads.from_next) in
          let falls = leads.nearer in
          omega arith;
      meets = meets_at n (outlet c) (cell_place n c) (cell_place n e) beyond;
      alone = λ d s in_set same. ⊎_elim
          (λ (k : d ≡ c). inl k)
          (λ (k : d ≢ c). inr (same_number n d e (one_beyond (outlet c) (cell_place n c) (cell_place n d) (cell_place n e)
          (beyond_face m c d s (outlet c) here in_set k same) beyond)))
          (cases_eq d c);
    }

-- the way ends after as many cells as the distance says
pub outward : (m : Mesh) (outlet : ℕ → Side) (distance : ℕ → ℕ) → AreOutlets m outlet → AreDistances m distance → (k c : ℕ) →
    IsSolidAt m c → distance c ≤ k → (es : List ℕ) × IsOutward (face_of m.cells) (IsSolidAt m) outlet c es
outward m outlet distance outlets distances zero c here near = let some = (distances c here).long in absurd (omega arith)
outward m outlet distance outlets distances (suc k) c here near = ⊎_elim
    (λ (root : IsRoot m (cell_place m.cells c) (cell_place m.cells c) (outlet c)).
    ([], λ d s in_set same. on_one m c d s (outlet c) here in_set root.surface same))
    (λ (is : IsFirstNearer m (cell_place m.cells c) (outlet c)).
    let n = m.cells in
    let q = is.leads.next in
    let e = cell_number n q in
    let leads = leads_to m outlet c here is.leads in
    let at : cell_place n e ≡ q = cell_place_of_number n q is.leads.solid.0 in
    let from = one_distance m (cell_place n c) is.leads.from (distance c) is.leads.from_here (distances c here) in
    let to = one_distance m q is.leads.to (distance e) is.leads.from_next (subst (λ (p : Place). IsDistance m p (distance e)) at (distances e leads.in_set)) in
    let falls = is.leads.nearer in
    let rest = outward m outlet distance outlets distances k e leads.in_set (omega arith) in
    (e ∷ rest.0, (leads, rest.1)))
    (outlets c here)

-- ---- what enters

-- 1 enters at the face on a side of a cell
abbrev pub entering : Mesh → ℕ → Side → List ℤ
entering m c s = slice_set (replicate (face_count m.cells) (pos 0)) (face_of m.cells c s) (neg_ℤ (out s))

pub none_flows : (n f : ℕ) → flow (replicate n (pos 0)) f ≡ pos 0
none_flows zero f = refl
none_flows (suc n) zero = refl
none_flows (suc n) (suc f) = none_flows n f

enters_elsewhere : (m : Mesh) (c : ℕ) (s : Side) (f : ℕ) → f ≢ face_of m.cells c s → flow (entering m c s) f ≡ pos 0
enters_elsewhere m c s f other = get_or-set_other (replicate (face_count m.cells) (pos 0)) (face_of m.cells c s) f (neg_ℤ (out s)) (pos 0) other ∙ none_flows (face_count m.cells) f

one_in : (face : Sides) (q : Flow) (c : ℕ) (s : Side) → q (face c s) ≡ neg_ℤ (out s) → ((t : Side) → t ≢ s → q (face c t) ≡ pos 0) → net face q c ≡ negsuc 0
one_in face q c (Low X) is others =
    omega (arith, ints, is, others (Low Y) (λ e. cc), others (Low Z) (λ e. cc), others (High X) (λ e. cc), others (High Y) (λ e. cc), others (High Z) (λ e. cc))
one_in face q c (Low Y) is others =
    omega (arith, ints, is, others (Low X) (λ e. cc), others (Low Z) (λ e. cc), others (High X) (λ e. cc), others (High Y) (λ e. cc), others (High Z) (λ e. cc))
one_in face q c (Low Z) is others =
    omega (arith, ints, is, others (Low X) (λ e. cc), others (Low Y) (λ e. cc), others (High X) (λ e. cc), others (High Y) (λ e. cc), others (High Z) (λ e. cc))
one_in face q c (High X) is others =
    omega (arith, ints, is, others (Low X) (λ e. cc), others (Low Y) (λ e. cc), others (Low Z) (λ e. cc), others (High Y) (λ e. cc), others (High Z) (λ e. cc))
one_in face q c (High Y) is others =
    omega (arith, ints, is, others (Low X) (λ e. cc), others (Low Y) (λ e. cc), others (Low Z) (λ e. cc), others (High X) (λ e. cc), others (High Z) (λ e. cc))
one_in face q c (High Z) is others =
    omega (arith, ints, is, others (Low X) (λ e. cc), others (Low Y) (λ e. cc), others (Low Z) (λ e. cc), others (High X) (λ e. cc), others (High Y) (λ e. cc))

nothing_in : (face : Sides) (q : Flow) (c : ℕ) → ((t : Side) → q (face c t) ≡ pos 0) → net face q c ≡ pos 0
nothing_in face q c none = omega (arith, ints, none (Low X), none (Low Y), none (Low Z), none (High X), none (High Y), none (High Z))

pub begins_way : (m : Mesh) (outlet : ℕ → Side) (distance : ℕ → ℕ) → (c : ℕ) (s : Side) → IsSolidAt m c → IsSurface (kind_on m s (cell_place m.cells c)) → s ≢ outlet c →
    IsOnWay (face_of m.cells) (IsSolidAt m) outlet distance (entering m c s) c
begins_way m outlet distance c s here surface other =
    let n = m.cells in
    let below = number_below n (cell_place n c) s here.1.0 in
    let long = length-replicate (face_count n) (pos 0) in
    record {
      here = here;
      gains = one_in (face_of n) (flow (entering m c s)) c s
          (get_or-set_same (replicate (face_count n) (pos 0)) (face_of n c s) (neg_ℤ (out s)) (pos 0) (omega (arith, below, long)))
          (λ t apart. enters_elsewhere m c s (face_of n c t) (λ same. apart (faces_apart n (cell_place n c) t s here.1.0 same)));
      others = λ d in_set apart. nothing_in (face_of n) (flow (entering m c s)) d
          (λ t. enters_elsewhere m c s (face_of n d t) (λ same. apart (on_one m c d t s here in_set surface same)));
      free = λ d in_set near. enters_elsewhere m c s (face_of n d (outlet d)) (λ same.
          let one = on_one m c d (outlet d) s here in_set surface same in
          other (sym (faces_apart n (cell_place n c) (outlet c) s here.1.0 (ap (λ (x : ℕ). face_of n x (outlet x)) (sym one) ∙ same))));
      below = λ d in_set.
          let within = number_below n (cell_place n d) (outlet d) in_set.1.0 in
          let same = length-set (replicate (face_count n) (pos 0)) (face_of n c s) (neg_ℤ (out s)) in
          omega (arith, within, same, long);
    }

-- ---- the cycle

carried_length : (face : Sides) (outlet : ℕ → Side) (values : List ℤ) (c : ℕ) (es : List ℕ) → length (carry_all face outlet values c es) ≡ length values
carried_length face outlet values c [] = length-set values (face c (outlet c)) (out (outlet c))
carried_length face outlet values c (e ∷ es) = carried_length face outlet (carry face outlet values c) e es ∙ length-set values (face c (outlet c)) (out (outlet c))

-- each cell on the way is of the set
on_way_in : (face : Sides) (inside : ℕ → Type 0) (outlet : ℕ → Side) (c : ℕ) (es : List ℕ) → IsOutward face inside outlet c es → (d : ℕ) → Contains es d → inside d
on_way_in face inside outlet c [] leads d (k, below, is) = absurd (omega arith)
on_way_in face inside outlet c (e ∷ es) (leads, rest) d (zero, below, is) = subst inside is leads.in_set
on_way_in face inside outlet c (e ∷ es) (leads, rest) d (suc k, below, is) = on_way_in face inside outlet e es rest d (k, omega arith, is)

-- off the face and the outlets nothing flows
off_way : (m : Mesh) (outlet : ℕ → Side) (c : ℕ) (s : Side) (es : List ℕ) → AreOutlets m outlet → IsSolidAt m c →
    IsOutward (face_of m.cells) (IsSolidAt m) outlet c es → (f : ℕ) → ¬ IsOutletFace m f →
    flow (carry_all (face_of m.cells) outlet (entering m c s) c es) f ≡ flow (entering m c s) f
off_way m outlet c s es outlets here leads f none = carried_elsewhere (face_of m.cells) outlet (entering m c s) c es f
    (λ same. none (outlet_is_face m outlet outlets f (record { cell = c; in_set = here; is = sym same })))
    (λ d within same. none (outlet_is_face m outlet outlets f (record { cell = d; in_set = on_way_in (face_of m.cells) (IsSolidAt m) outlet c es leads d within; is = sym same })))

-- what is carried from a Surface that isn't the root along the way of outlets is the cycle
pub is_cycle : (m : Mesh) (outlet : ℕ → Side) (distance : ℕ → ℕ) (c : ℕ) (s : Side) (es : List ℕ) → AreOutlets m outlet → AreDistances m distance →
    IsSolidAt m c → IsSurface (kind_on m s (cell_place m.cells c)) → s ≢ outlet c → IsOutward (face_of m.cells) (IsSolidAt m) outlet c es →
    IsCycle m c s (carry_all (face_of m.cells) outlet (entering m c s) c es)
is_cycle m outlet distance c s es outlets distances here surface other leads =
    let n = m.cells in
    let values = carry_all (face_of n) outlet (entering m c s) c es in
    let long = carried_length (face_of n) outlet (entering m c s) c es ∙ length-set (replicate (face_count n) (pos 0)) (face_of n c s) (neg_ℤ (out s)) ∙ length-replicate (face_count n) (pos 0) in
    let below = number_below n (cell_place n c) s here.1.0 in
    let full = length-replicate (face_count n) (pos 0) in
    let balanced = carried_balances (face_of n) (IsSolidAt m) outlet distance (entering m c s) c es (tree m outlet distance outlets distances)
    (begins_way m outlet distance c s here surface other) leads in
    let not_outlet : ¬ IsOutletFace m (face_of n c s) = λ is.
    let found = face_is_outlet m outlet outlets (face_of n c s) is in
    let one = on_one m c found.cell (outlet found.cell) s here found.in_set surface found.is in
    other (sym (faces_apart n (cell_place n c) (outlet c) s here.1.0 (ap (λ (x : ℕ). face_of n x (outlet x)) (sym one) ∙ found.is))) in
    let rest : (f : ℕ) → f ≢ face_of n c s → ¬ IsOutletFace m f → flow values f ≡ pos 0 =
    λ f apart none. off_way m outlet c s es outlets here leads f none ∙ enters_elsewhere m c s f apart in
    record {
      count = long;
      balanced = record {
        cells = λ i j k material hi hj hk is.
            let p : Place = place_at i j k in
            let d = cell_number n p in
            let at = cell_place_of_number n p (hi, hj, hk) in
            let solid : IsSolidCell m p = ((hi, hj, hk), record { material = material; fills = is }) in
            nothing_lost n (carry_all (face_of n) outlet (entering m c s) c es) d p at (balanced d (cell_number_below n p (hi, hj, hk), subst (IsSolidCell m) (sym at) solid));
        shut = λ a i j k hi hj hk is.
            let face = kind_on_line m a i j k hi hj hk in
            let shut_face : kind_of m face.0 ≡ Shut = face.2 ∙ is in
            face.3 (carry_all (face_of n) outlet (entering m c s) c es) ∙ ap int (rest face.0
            (λ same. subst IsSurface (sym (kind_of_number m (cell_place n c) s here.1.0) ∙ ap (kind_of m) (sym same) ∙ shut_face) surface)
            (λ outlet_face. true≢false (sym (outlet_carries m face.0 outlet_face) ∙ ap carries shut_face)));
      };
      enters = off_way m outlet c s es outlets here leads (face_of n c s) not_outlet
          ∙ get_or-set_same (replicate (face_count n) (pos 0)) (face_of n c s) (neg_ℤ (out s)) (pos 0) (omega (arith, below, full));
      rest = λ f within apart none. rest f apart none;
    }

-- and there is one
pub one_cycle : (m : Mesh) (outlet : ℕ → Side) (distance : ℕ → ℕ) (c : ℕ) (s : Side) (v w : List ℤ) → AreOutlets m outlet → AreDistances m distance →
    IsCycle m c s v → IsCycle m c s w → v ≡ w
one_cycle m outlet distance c s v w outlets distances first second =
    let one = first.count in
    let two = second.count in
    ext_get_or (pos 0) v w (omega arith) (λ f below. ⊎_elim
    (λ (same : f ≡ face_of m.cells c s). ap (flow v) same ∙ first.enters ∙ sym second.enters ∙ ap (flow w) (sym same))
    (λ (apart : f ≢ face_of m.cells c s).
    determined (face_of m.cells) (IsSolidAt m) outlet distance (most_of distance (cell_count m.cells)) (flow v) (flow w)
    (tree m outlet distance outlets distances) (λ d here. at_most distance (cell_count m.cells) d here.0)
    (agree one two)
    (λ d here. balanced_at m v first.balanced d here ∙ sym (balanced_at m w second.balanced d here)) f)
    (cases_eq f (face_of m.cells c s)))
  where
    agree : length v ≡ face_count m.cells → length w ≡ face_count m.cells → AgreesOff (face_of m.cells) (IsSolidAt m) outlet (flow v) (flow w)
    agree one two f none = ⊎_elim
        (λ (l : f < face_count m.cells). ⊎_elim
        (λ (same : f ≡ face_of m.cells c s). ap (flow v) same ∙ first.enters ∙ sym second.enters ∙ ap (flow w) (sym same))
        (λ (apart : f ≢ face_of m.cells c s).
        let other = λ (is : IsOutletFace m f). none (face_is_outlet m outlet outlets f is) in
        first.rest f l apart other ∙ sym (second.rest f l apart other))
        (cases_eq f (face_of m.cells c s)))
        (λ (l : face_count m.cells ≤ f). get_or_past v f (pos 0) (omega arith) ∙ sym (get_or_past w f (pos 0) (omega arith)))
        (cases_lt f (face_count m.cells))

-- the cycle with its values
pub cycle_with : (m : Mesh) (outlet : ℕ → Side) (distance : ℕ → ℕ) (c : ℕ) (s : Side) (es : List ℕ) → AreOutlets m outlet → AreDistances m distance →
    IsSolidAt m c → IsSurface (kind_on m s (cell_place m.cells c)) → s ≢ outlet c → IsOutward (face_of m.cells) (IsSolidAt m) outlet c es →
    (v : List ℤ) × IsCycle m c s v
    × (flow v (face_of m.cells c (outlet c)) ≡ out (outlet c))
    × ((d : ℕ) → Contains es d → flow v (face_of m.cells d (outlet d)) ≡ out (outlet d))
    × ((f : ℕ) → f ≢ face_of m.cells c s → f ≢ face_of m.cells c (outlet c) → ((d : ℕ) → Contains es d → f ≢ face_of m.cells d (outlet d)) → flow v f ≡ pos 0)
cycle_with m outlet distance c s es outlets distances here surface other leads =
    let is_tree = tree m outlet distance outlets distances in
    let way = begins_way m outlet distance c s here surface other in (
      carry_all (face_of m.cells) outlet (entering m c s) c es,
      is_cycle m outlet distance c s es outlets distances here surface other leads,
      carried_first (face_of m.cells) (IsSolidAt m) outlet distance (entering m c s) c es is_tree way leads,
      carried_rest (face_of m.cells) (IsSolidAt m) outlet distance (entering m c s) c es is_tree way leads,
      λ f apart first rest. carried_elsewhere (face_of m.cells) outlet (entering m c s) c es f first rest ∙ enters_elsewhere m c s f apart,
    )
