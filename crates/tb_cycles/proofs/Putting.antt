-- A multiple of a cycle, put into a flux on the way of outlets.
use Rattle.std.proofs.Common.{◌≡◌, ◌≢◌, ℕ, ◌^◌, ◌<◌, ◌≤◌, List, [], ◌∷◌, length, arith, refl, sym, ap, subst, ◌∙◌, ⊎_elim, get_or-set_other, get_or-set_same}
use Rattle.std.specs.Prelude.{ℤ, pos, ◌+ℤ◌, ◌*ℤ◌, slice_set, unsigned_abs, neg_ℤ}
use Rattle.std.proofs.lemmas.Int.{ints}
use Rattle.std.proofs.lemmas.Bool.{cases_eq}
use Rattle.std.proofs.lemmas.List.{length-replicate}
use Rattle.std.proofs.Math.ListN.{replicate}
use Rattle.tb_math.proofs.ReadIntegers.{by_reading, reading}
use Rattle.tb_places.specs.Inverse.{cell_place}
use Rattle.tb_places.specs.Places.{Counts, face_count}
use Rattle.tb_model.specs.Mesh.{Mesh}
use Rattle.tb_outlets.specs.declared.marks.Mark.{Mark}
use Rattle.tb_outlets.specs.declared.side.Side.{Side}
use Rattle.tb_outlets.specs.Balancing.{IsWithinLimits, flow, side_at}
use Rattle.tb_outlets.specs.Cycles.{IsOutward, carry, carry_all, opposite, out}
use Rattle.tb_outlets.specs.Outlets.{IsSolidAt}
use Rattle.tb_outlets.specs.Searching.{distance_at}
use Rattle.tb_outlets.specs.Sides.{face_of}
use Rattle.tb_outlets.proofs.Carrying.{IsOnWay, carried, next_on_way, uncarried}
use Rattle.tb_outlets.specs.Repair.{IsCycle}
use Rattle.tb_outlets.proofs.MeshCycles.{begins_way, is_cycle, none_flows, on_one, one_cycle, outward}
use Rattle.tb_outlets.proofs.Sides.{faces_apart, number_below}
use Rattle.tb_outlets.proofs.Trees.{tree}
use Rattle.tb_cycles.specs.Entries.{IsEntry, IsStart, entering_flow}
use Rattle.tb_cycles.proofs.Entering.{root_has_none}
use Rattle.tb_cycles.specs.Ways.{IsLast, IsNext, LeadOut}
use Rattle.tb_cycles.proofs.Outward.{IsFollowed, followed, nothing_left}

-- What was put of a flow so far, times t, by a walk that is at cell c: the flow `part`. On the way that is left it becomes
-- the whole flow.
pub record IsPut (m : Mesh) (marks : List Mark) (sides : List Side) (t : ℤ) (before whole old now : List ℤ) (c : ℕ) : Type 0 where
  pub part : List ℤ
  pub rest : List ℕ
  pub way : IsOnWay (face_of m.cells) (IsSolidAt m) (side_at sides) (distance_at marks) part c
  pub outward : IsOutward (face_of m.cells) (IsSolidAt m) (side_at sides) c rest
  pub ends : carry_all (face_of m.cells) (side_at sides) part c rest ≡ whole
  pub values : (f : ℕ) → flow now f +ℤ t *ℤ flow before f ≡ flow old f +ℤ t *ℤ flow part f

times_nothing : (x y : ℤ) → y ≡ pos 0 → x *ℤ y ≡ pos 0
times_nothing x y e = rw e (by_reading {atoms = x ∷ []} (search reading) (search reading) refl)

other_way : (x y : ℤ) → x *ℤ y ≡ y *ℤ x
other_way x y = by_reading {atoms = x ∷ y ∷ []} (search reading) (search reading) refl

still : (v o t b p : ℤ) → v +ℤ t *ℤ b ≡ o +ℤ t *ℤ p → b ≡ pos 0 → p ≡ pos 0 → v ≡ o
still v o t b p e none_b none_p = omega (arith, ints, e, times_nothing t b none_b, times_nothing t p none_p)

put_here : (n b o p t w : ℤ) → n +ℤ t *ℤ b ≡ o +ℤ t *ℤ p → p ≡ pos 0 → (n +ℤ w *ℤ t) +ℤ t *ℤ b ≡ o +ℤ t *ℤ w
put_here n b o p t w e none = omega (arith, ints, e, times_nothing t p none, other_way w t)

module _ (m : Mesh) (marks : List Mark) (sides : List Side) (leads : LeadOut m marks sides) (t : ℤ) (before whole old : List ℤ) where
  -- the outlet of the cell in hand wasn't touched
  pub untouched : (now : List ℤ) (start c : ℕ) → IsOnWay (face_of m.cells) (IsSolidAt m) (side_at sides) (distance_at marks) before start →
      distance_at marks c ≤ distance_at marks start → IsPut m marks sides t before whole old now c →
      let k = face_of m.cells c (side_at sides c) in flow now k ≡ flow old k
  untouched now start c begun near is =
      let k = face_of m.cells c (side_at sides c) in
      still (flow now k) (flow old k) t (flow before k) (flow is.part k) (is.values k) (begun.free c is.way.here near) (is.way.free c is.way.here (omega arith))

  -- what is put at the outlet of the cell in hand
  one_put : (now next : List ℤ) (c : ℕ) (is : IsPut m marks sides t before whole old now c) → let k = face_of m.cells c (side_at sides c) in
      k < length now → next ≡ slice_set now k (flow now k +ℤ out (side_at sides c) *ℤ t) → (f : ℕ) →
      flow next f +ℤ t *ℤ flow before f ≡ flow old f +ℤ t *ℤ flow (carry (face_of m.cells) (side_at sides) is.part c) f
  one_put now next c is within made f =
      let k = face_of m.cells c (side_at sides c) in
      let v = flow now k +ℤ out (side_at sides c) *ℤ t in
      let none = is.way.free c is.way.here (omega arith) in
      ⊎_elim
      (λ (same : f ≡ k). subst (λ (x : ℕ). flow next x +ℤ t *ℤ flow before x ≡ flow old x +ℤ t *ℤ flow (carry (face_of m.cells) (side_at sides) is.part c) x) (sym same)
      (ap (λ (x : ℤ). x +ℤ t *ℤ flow before k) (ap (λ (l : List ℤ). flow l k) made ∙ get_or-set_same now k v (pos 0) within)
      ∙ put_here (flow now k) (flow before k) (flow old k) (flow is.part k) t (out (side_at sides c)) (is.values k) none
      ∙ ap (λ (x : ℤ). flow old k +ℤ t *ℤ x) (sym (carried (face_of m.cells) (side_at sides) is.part c (is.way.below c is.way.here)))))
      (λ (other : f ≢ k).
      ap (λ (x : ℤ). x +ℤ t *ℤ flow before f) (ap (λ (l : List ℤ). flow l f) made ∙ get_or-set_other now k f v (pos 0) other)
      ∙ is.values f
      ∙ ap (λ (x : ℤ). flow old f +ℤ t *ℤ x) (sym (uncarried (face_of m.cells) (side_at sides) is.part c f other)))
      (cases_eq f k)

  pub step_put : (now next : List ℤ) (c d : ℕ) → IsPut m marks sides t before whole old now c → IsNext m.cells marks sides c d →
      let k = face_of m.cells c (side_at sides c) in k < length now → next ≡ slice_set now k (flow now k +ℤ out (side_at sides c) *ℤ t) →
      IsPut m marks sides t before whole old next d
  step_put now next c d is further within made = on_rest is.rest is.outward is.ends
    where
      there : IsFollowed m marks sides c d
      there = followed m marks sides leads c d is.way.here further

      on_rest : (es : List ℕ) → IsOutward (face_of m.cells) (IsSolidAt m) (side_at sides) c es →
          carry_all (face_of m.cells) (side_at sides) is.part c es ≡ whole → IsPut m marks sides t before whole old next d
      on_rest [] away ends = absurd (there.leads.other (sym (away d (opposite (side_at sides c)) there.leads.in_set there.leads.meets)))
      on_rest (e ∷ es) (to, rest) ends =
          let same : e ≡ d = ⊎_elim
          (λ (x : e ≡ c). absurd (to.other (sym x)))
          (λ (x : e ≡ d). x)
          (there.leads.alone e (opposite (side_at sides c)) to.in_set to.meets) in
          subst (λ (x : ℕ). IsPut m marks sides t before whole old next x) same (record {
            part = carry (face_of m.cells) (side_at sides) is.part c;
            rest = es;
            way = next_on_way (face_of m.cells) (IsSolidAt m) (side_at sides) (distance_at marks) is.part c e
                (tree m (side_at sides) (distance_at marks) leads.outlets leads.distances) is.way to;
            outward = rest;
            ends = ends;
            values = one_put now next c is within made;
          })

  pub end_put : (now next : List ℤ) (c : ℕ) → IsPut m marks sides t before whole old now c → IsLast m.cells marks sides c →
      let k = face_of m.cells c (side_at sides c) in k < length now → next ≡ slice_set now k (flow now k +ℤ out (side_at sides c) *ℤ t) →
      (f : ℕ) → flow next f +ℤ t *ℤ flow before f ≡ flow old f +ℤ t *ℤ flow whole f
  end_put now next c is last within made f =
      let none = nothing_left m marks sides leads c is.way.here last is.rest is.outward in
      let ends : carry (face_of m.cells) (side_at sides) is.part c ≡ whole =
      subst (λ (es : List ℕ). carry_all (face_of m.cells) (side_at sides) is.part c es ≡ whole) none is.ends in
      one_put now next c is within made f ∙ ap (λ (l : List ℤ). flow old f +ℤ t *ℤ flow l f) ends

-- ---- from the cell where a cycle enters

no_outlet : (m : Mesh) (marks : List Mark) (sides : List Side) → LeadOut m marks sides → (f c : ℕ) (s : Side) → IsEntry m f c s → s ≢ side_at sides c
no_outlet m marks sides leads f c s entry same = root_has_none m (side_at sides) f c s leads.outlets (sym same) entry

pub begun_at : (m : Mesh) (marks : List Mark) (sides : List Side) → LeadOut m marks sides → (f c : ℕ) (s : Side) → IsEntry m f c s →
    IsOnWay (face_of m.cells) (IsSolidAt m) (side_at sides) (distance_at marks) (entering_flow m c s) c
begun_at m marks sides leads f c s entry =
    begins_way m (side_at sides) (distance_at marks) c s entry.solid entry.surface (no_outlet m marks sides leads f c s entry)

way_from : (m : Mesh) (marks : List Mark) (sides : List Side) → LeadOut m marks sides → (c : ℕ) → IsSolidAt m c →
    (es : List ℕ) × IsOutward (face_of m.cells) (IsSolidAt m) (side_at sides) c es
way_from m marks sides leads c here = outward m (side_at sides) (distance_at marks) leads.outlets leads.distances (distance_at marks c) c here (omega arith)

pub some_cycle : (m : Mesh) (marks : List Mark) (sides : List Side) → LeadOut m marks sides → (f c : ℕ) (s : Side) → IsEntry m f c s →
    (z : List ℤ) × IsCycle m c s z
some_cycle m marks sides leads f c s entry =
    let way = way_from m marks sides leads c entry.solid in (
      carry_all (face_of m.cells) (side_at sides) (entering_flow m c s) c way.0,
      is_cycle m (side_at sides) (distance_at marks) c s way.0 leads.outlets leads.distances entry.solid entry.surface (no_outlet m marks sides leads f c s entry) way.1,
    )

pub nothing_put : (m : Mesh) (marks : List Mark) (sides : List Side) → LeadOut m marks sides → (f c : ℕ) (s : Side) (z flows : List ℤ) (t : ℤ) →
    IsEntry m f c s → IsCycle m c s z → IsPut m marks sides t (entering_flow m c s) z flows flows c
nothing_put m marks sides leads f c s z flows t entry cycle =
    let way = way_from m marks sides leads c entry.solid in
    record {
      part = entering_flow m c s;
      rest = way.0;
      way = begun_at m marks sides leads f c s entry;
      outward = way.1;
      ends = one_cycle m (side_at sides) (distance_at marks) c s _ z leads.outlets leads.distances
          (is_cycle m (side_at sides) (distance_at marks) c s way.0 leads.outlets leads.distances entry.solid entry.surface (no_outlet m marks sides leads f c s entry) way.1) cycle;
      values = λ g. refl;
    }

-- on whatever mesh has these lists
abbrev pub IsPutOn : Counts → List Mark → List Side → ℕ → Side → ℤ → (old now : List ℤ) → ℕ → Type 0
IsPutOn n marks sides c s t old now d = (m : Mesh) → n ≡ m.cells → LeadOut m marks sides → (f : ℕ) (z : List ℤ) → IsEntry m f c s → IsCycle m c s z →
    IsPut m marks sides t (entering_flow m c s) z old now d

pub within_put : (n : Counts) (marks : List Mark) (sides : List Side) (c : ℕ) (s : Side) (t : ℤ) (old now : List ℤ) (d : ℕ) → IsStart n marks sides c s →
    ((e : ℕ) → 0 < distance_at marks e → unsigned_abs (flow old (face_of n e (side_at sides e))) ≤ 10 ^ 12) → 0 < distance_at marks d →
    distance_at marks d ≤ distance_at marks c → IsPutOn n marks sides c s t old now d → unsigned_abs (flow now (face_of n d (side_at sides d))) ≤ 10 ^ 12
within_put n marks sides c s t old now d start limits found near put =
    let m = start.mesh in
    let cycle = some_cycle m marks sides start.leads start.face c s start.entry in
    let is = put m start.counts start.leads start.face cycle.0 start.entry cycle.1 in
    let same : flow now (face_of m.cells d (side_at sides d)) ≡ flow old (face_of m.cells d (side_at sides d)) =
    untouched m marks sides start.leads t (entering_flow m c s) cycle.0 old now c d (begun_at m marks sides start.leads start.face c s start.entry) near is in
    let here : flow now (face_of n d (side_at sides d)) ≡ flow old (face_of n d (side_at sides d)) =
    subst (λ (k : Counts). flow now (face_of k d (side_at sides d)) ≡ flow old (face_of k d (side_at sides d))) (sym start.counts) same in
    subst (λ (x : ℤ). unsigned_abs x ≤ 10 ^ 12) (sym here) (limits d found)

-- a step, and the last, as a program takes them
outlet_within : (n : Counts) (m : Mesh) (marks : List Mark) (sides : List Side) (d : ℕ) (now : List ℤ) → n ≡ m.cells → LeadOut m marks sides →
    0 < distance_at marks d → length now ≡ face_count n → face_of m.cells d (side_at sides d) < length now
outlet_within n m marks sides d now same leads found long =
    let below = number_below m.cells (cell_place m.cells d) (side_at sides d) (leads.found d found).1.0 in
    let count = ap face_count same in
    omega (arith, below, count, long)

pub step_put_on : (n : Counts) (marks : List Mark) (sides : List Side) (c : ℕ) (s : Side) (t : ℤ) (old now next : List ℤ) (d e : ℕ) →
    0 < distance_at marks d → length now ≡ face_count n → IsNext n marks sides d e →
    next ≡ slice_set now (face_of n d (side_at sides d)) (flow now (face_of n d (side_at sides d)) +ℤ out (side_at sides d) *ℤ t) →
    IsPutOn n marks sides c s t old now d → IsPutOn n marks sides c s t old next e
step_put_on n marks sides c s t old now next d e found long further made put m same leads f z entry cycle =
    step_put m marks sides leads t (entering_flow m c s) z old now next d e (put m same leads f z entry cycle)
    (subst (λ (k : Counts). IsNext k marks sides d e) same further) (outlet_within n m marks sides d now same leads found long)
    (made ∙ ap (λ (k : Counts). slice_set now (face_of k d (side_at sides d)) (flow now (face_of k d (side_at sides d)) +ℤ out (side_at sides d) *ℤ t)) same)

pub end_put_on : (n : Counts) (marks : List Mark) (sides : List Side) (c : ℕ) (s : Side) (t : ℤ) (old now next : List ℤ) (d : ℕ) →
    0 < distance_at marks d → length now ≡ face_count n → IsLast n marks sides d →
    next ≡ slice_set now (face_of n d (side_at sides d)) (flow now (face_of n d (side_at sides d)) +ℤ out (side_at sides d) *ℤ t) →
    IsPutOn n marks sides c s t old now d → (m : Mesh) → n ≡ m.cells → LeadOut m marks sides → (f : ℕ) (z : List ℤ) → IsEntry m f c s → IsCycle m c s z →
    (g : ℕ) → flow next g +ℤ t *ℤ flow (entering_flow m c s) g ≡ flow old g +ℤ t *ℤ flow z g
end_put_on n marks sides c s t old now next d found long last made put m same leads f z entry cycle =
    end_put m marks sides leads t (entering_flow m c s) z old now next d (put m same leads f z entry cycle)
    (subst (λ (k : Counts). IsLast k marks sides d) same last) (outlet_within n m marks sides d now same leads found long)
    (made ∙ ap (λ (k : Counts). slice_set now (face_of k d (side_at sides d)) (flow now (face_of k d (side_at sides d)) +ℤ out (side_at sides d) *ℤ t)) same)

-- ---- the whole cycle

-- no outlet is the face where the cycle enters
no_entry_face : (m : Mesh) (marks : List Mark) (sides : List Side) → LeadOut m marks sides → (f c : ℕ) (s : Side) → IsEntry m f c s → (d : ℕ) → IsSolidAt m d →
    face_of m.cells d (side_at sides d) ≢ face_of m.cells c s
no_entry_face m marks sides leads f c s entry d here same =
    let one = on_one m c d (side_at sides d) s entry.solid here entry.surface same in
    no_outlet m marks sides leads f c s entry
    (sym (faces_apart m.cells (cell_place m.cells c) (side_at sides c) s entry.solid.1.0 (ap (λ (x : ℕ). face_of m.cells x (side_at sides x)) (sym one) ∙ same)))

pub still_within : (n : Counts) (marks : List Mark) (sides : List Side) (c : ℕ) (s : Side) (old now : List ℤ) (v : ℤ) → IsStart n marks sides c s →
    IsWithinLimits old → length old ≡ face_count n → now ≡ slice_set old (face_of n c s) v → (d : ℕ) → 0 < distance_at marks d →
    unsigned_abs (flow now (face_of n d (side_at sides d))) ≤ 10 ^ 12
still_within n marks sides c s old now v start limits long made d found =
    let m = start.mesh in
    let here = start.leads.found d found in
    let k = face_of n d (side_at sides d) in
    let apart : k ≢ face_of n c s =
    subst (λ (j : Counts). face_of j d (side_at sides d) ≢ face_of j c s) (sym start.counts) (no_entry_face m marks sides start.leads start.face c s start.entry d here) in
    let below : k < face_count n =
    subst (λ (j : Counts). face_of j d (side_at sides d) < face_count j) (sym start.counts) (number_below m.cells (cell_place m.cells d) (side_at sides d) here.1.0) in
    subst (λ (x : ℤ). unsigned_abs x ≤ 10 ^ 12) (sym (ap (λ (l : List ℤ). flow l k) made ∙ get_or-set_other old (face_of n c s) k v (pos 0) apart))
    (limits k (pos 0) (omega arith))

opposite_times : (o t : ℤ) → o *ℤ neg_ℤ t ≡ t *ℤ neg_ℤ o
opposite_times o t = by_reading {atoms = o ∷ t ∷ []} (search reading) (search reading) refl

-- what flows after 1 was let in, times t
entered : (m : Mesh) (c : ℕ) (s : Side) (old now : List ℤ) (t : ℤ) → let k = face_of m.cells c s in k < length old → k < face_count m.cells →
    now ≡ slice_set old k (flow old k +ℤ out s *ℤ neg_ℤ t) → (g : ℕ) → flow now g ≡ flow old g +ℤ t *ℤ flow (entering_flow m c s) g
entered m c s old now t within below made g =
    let k = face_of m.cells c s in
    let full = length-replicate (face_count m.cells) (pos 0) in
    ⊎_elim
    (λ (same : g ≡ k). subst (λ (x : ℕ). flow now x ≡ flow old x +ℤ t *ℤ flow (entering_flow m c s) x) (sym same)
    (ap (λ (l : List ℤ). flow l k) made ∙ get_or-set_same old k (flow old k +ℤ out s *ℤ neg_ℤ t) (pos 0) within
    ∙ ap (λ (x : ℤ). flow old k +ℤ x) (opposite_times (out s) t
    ∙ ap (λ (x : ℤ). t *ℤ x) (sym (get_or-set_same (replicate (face_count m.cells) (pos 0)) k (neg_ℤ (out s)) (pos 0) (omega (arith, below, full)))))))
    (λ (other : g ≢ k).
    ap (λ (l : List ℤ). flow l g) made ∙ get_or-set_other old k g (flow old k +ℤ out s *ℤ neg_ℤ t) (pos 0) other
    ∙ nothing_more (flow old g) t (flow (entering_flow m c s) g)
    (get_or-set_other (replicate (face_count m.cells) (pos 0)) k g (neg_ℤ (out s)) (pos 0) other ∙ none_flows (face_count m.cells) g))
    (cases_eq g k)
  where
    nothing_more : (o t e : ℤ) → e ≡ pos 0 → o ≡ o +ℤ t *ℤ e
    nothing_more o t e none = omega (arith, ints, times_nothing t e none)

both_put : (w e z n o : ℤ) → w +ℤ e ≡ n +ℤ z → n ≡ o +ℤ e → w ≡ o +ℤ z
both_put w e z n o first second = omega (arith, ints, first, second)

pub cycle_added : (n : Counts) (m : Mesh) (marks : List Mark) (sides : List Side) (f c : ℕ) (s : Side) (old now new : List ℤ) (t : ℤ) (z : List ℤ) → n ≡ m.cells →
    LeadOut m marks sides → IsEntry m f c s → length old ≡ face_count n → now ≡ slice_set old (face_of n c s) (flow old (face_of n c s) +ℤ out s *ℤ neg_ℤ t) →
    ((g : ℕ) → flow new g +ℤ t *ℤ flow (entering_flow m c s) g ≡ flow now g +ℤ t *ℤ flow z g) → (g : ℕ) → flow new g ≡ flow old g +ℤ t *ℤ flow z g
cycle_added n m marks sides f c s old now new t z same leads entry long made put g =
    let k = face_of m.cells c s in
    let below = number_below m.cells (cell_place m.cells c) s entry.solid.1.0 in
    let count = ap face_count same in
    both_put (flow new g) (t *ℤ flow (entering_flow m c s) g) (t *ℤ flow z g) (flow now g) (flow old g) (put g)
    (entered m c s old now t (omega (arith, below, count, long)) below
    (made ∙ ap (λ (j : Counts). slice_set old (face_of j c s) (flow old (face_of j c s) +ℤ out s *ℤ neg_ℤ t)) same) g)

pub entry_within : (n : Counts) (marks : List Mark) (sides : List Side) (c : ℕ) (s : Side) (old : List ℤ) → IsStart n marks sides c s → IsWithinLimits old →
    length old ≡ face_count n → unsigned_abs (flow old (face_of n c s)) ≤ 10 ^ 12
entry_within n marks sides c s old start limits long =
    let m = start.mesh in
    let below : face_of n c s < face_count n =
    subst (λ (j : Counts). face_of j c s < face_count j) (sym start.counts) (number_below m.cells (cell_place m.cells c) s start.entry.solid.1.0) in
    limits (face_of n c s) (pos 0) (omega arith)
