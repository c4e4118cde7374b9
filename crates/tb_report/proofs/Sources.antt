-- How much a flux brings into a body, and how large the ends of a certified case are.
use Rattle.std.specs.Prelude.{unsigned_abs}
use Rattle.std.proofs.Common.{◌≡◌, ◌∙◌, refl, sym, ap, subst, ℕ, zero, suc, ◌+◌, ◌*◌, ◌^◌, ◌<◌, ◌≤◌, Bool, true, false, if◌then◌else◌, List, [], ◌∷◌, get_or, map, ℤ, pos, neg_ℤ, ◌-ℤ◌, ◌*ℤ◌, ◌≤ℤ◌, arith, All}
use Rattle.std.proofs.lemmas.Int.{ints}
use Rattle.std.proofs.lemmas.List.Elements.{All-cons, All-head, All-nil, All-tail}
use Rattle.tb_math.specs.Ceiling.{ceiling, floor}
use Rattle.tb_math.specs.Rational.{int, neg_ℚ}
use Rattle.tb_math.proofs.CeilingLaws.{ceiling-int}
use Rattle.tb_math.proofs.RationalLaws.{int-neg}
use Rattle.tb_places.specs.declared.AxisName.{AxisName}
use Rattle.tb_places.specs.declared.AxisName.TheVariants.{X, Y, Z}
use Rattle.tb_places.specs.Places.{face_number, place_at}
use Rattle.tb_detail.specs.declared.Detail.{Detail}
use Rattle.tb_detail.specs.Limits.{InLimits}
use Rattle.tb_grid.specs.Grid.{Axes, IsGrid, counts_of}
use Rattle.tb_model.specs.Energy.{Terms, entering_terms, flux_terms, lower_end, rounded_up, source, upper_end}
use Rattle.tb_model.specs.Mesh.{Mesh}
use Rattle.tb_model.specs.Values.{case_of}
use Rattle.tb_terms.specs.Limits.{IsFlow}
use Rattle.tb_terms.specs.declared.Interval.{Interval}
use Rattle.tb_flux.specs.Fluxes.{AreFlows, flux_on}
use Rattle.tb_geometry.specs.Grids.{mesh_on, occupant_at}
use Rattle.tb_rows.specs.Around.{filled_above, filled_below}
use Rattle.tb_rows.specs.Sums.{cell_up}
use Rattle.tb_rows.proofs.Filled.{above_fits, below_fits, occupant_fits}
use Rattle.tb_rows.proofs.Grids.{few_cells}
use Rattle.tb_sums.proofs.WholeTerms.{source_is}
use Rattle.tb_duality.proofs.BodyEnds.{gap_not_below_zero}
use Rattle.tb_conduct.specs.Pairs.{AreWithin}
use Rattle.tb_case_records.specs.declared.case.CaseProof.{CaseProof}
use Rattle.tb_bundle.specs.Bodies.{case_forms_from}
use Rattle.tb_bundle.specs.Limits.{CasesInLimits}
use Rattle.tb_checker.specs.Contents.{IsCertifiedCase, IsJudgeable, field_in, flux_in, inside_of, mesh_of, rounded_loss}
use Rattle.tb_checker.proofs.Carried.{judgeable}
use Rattle.tb_report.specs.Limits.{half_end}
use Rattle.tb_report.proofs.Sizes.{IsSmall, nine_size, side_size, solid_size, upper_size, whole_size}

-- ---- what enters through a face
abbrev most_flow : ℕ
most_flow = 10 ^ 12

whole : (z : ℤ) (most : ℕ) → unsigned_abs z ≤ most → IsSmall most (ceiling (int z))
whole z most h = subst (IsSmall most) (sym (ceiling-int z)) (record { size = h })

negative : (z : ℤ) → unsigned_abs z ≤ most_flow → unsigned_abs (neg_ℤ z) ≤ most_flow
negative z h = omega (arith, ints, h)

entered : (b : Bool) (z : ℤ) → IsFlow z → IsSmall most_flow (ceiling (if b then int z else int (pos 0)))
entered true z h = whole z most_flow h.at_most
entered false z h = whole (pos 0) most_flow (omega arith)

left : (b : Bool) (z : ℤ) → IsFlow z → IsSmall most_flow (ceiling (if b then neg_ℚ (int z) else int (pos 0)))
left true z h = subst (IsSmall most_flow) (sym (ceiling-int (neg_ℤ z)) ∙ ap ceiling (int-neg z)) (record { size = negative z h.at_most })
left false z h = whole (pos 0) most_flow (omega arith)

flow_within : (values : List ℤ) → All IsFlow values → (n : ℕ) → IsFlow (get_or values n (pos 0))
flow_within [] h n = record { at_most = omega arith }
flow_within (v ∷ vs) h zero = All-head IsFlow v vs h
flow_within (v ∷ vs) h (suc n) = flow_within vs (All-tail IsFlow v vs h) n

-- ---- what enters a body
module _ (d : Detail) (g : Axes) (values : List ℤ) (mask : ℕ) (limits : InLimits d) (grid : IsGrid g) (flows : AreFlows values) where
  abbrev m : Mesh
  m = mesh_on d g

  abbrev t : Terms
  t = entering_terms (case_of mask) (flux_on g values)

  fits : (a : AxisName) (i j k : ℕ) → IsFlow (get_or values (face_number (counts_of g) a (place_at i j k)) (pos 0))
  fits a i j k = flow_within values flows _

  none : IsSmall most_flow (ceiling (int (pos 0)))
  none = whole (pos 0) most_flow (omega arith)

  entering_size : (i j k : ℕ) → i < counts_of g X → j < counts_of g Y → k < counts_of g Z → IsSmall (9 * most_flow) (cell_up m t i j k)
  unfolding cell_up
  entering_size i j k li lj lk =
      solid_size d.materials (m.occupant i j k) _ _ (occupant_fits d g limits (place_at i j k) (occupant_at d g (place_at i j k)) refl)
      (λ n conducts.
      nine_size _ _ _ _ _ _ _ _ _ most_flow
      none
      (side_size d.materials _ _ _ (below_fits d g limits X i j k (filled_below d g X i j k) refl) (λ e rs resists. entered (case_of mask e) _ (fits X i j k)))
      (side_size d.materials _ _ _ (above_fits d g limits X (suc i) j k (filled_above d g X (suc i) j k) refl) (λ e rs resists. left (case_of mask e) _ (fits X (suc i) j k)))
      none
      (side_size d.materials _ _ _ (below_fits d g limits Y j i k (filled_below d g Y j i k) refl) (λ e rs resists. entered (case_of mask e) _ (fits Y i j k)))
      (side_size d.materials _ _ _ (above_fits d g limits Y (suc j) i k (filled_above d g Y (suc j) i k) refl) (λ e rs resists. left (case_of mask e) _ (fits Y i (suc j) k)))
      none
      (side_size d.materials _ _ _ (below_fits d g limits Z k i j (filled_below d g Z k i j) refl) (λ e rs resists. entered (case_of mask e) _ (fits Z i j k)))
      (side_size d.materials _ _ _ (above_fits d g limits Z (suc k) i j (filled_above d g Z (suc k) i j) refl) (λ e rs resists. left (case_of mask e) _ (fits Z i j (suc k)))))

  few : (a : AxisName) → m.cells a ≤ 1023
  few X = few_cells g X grid
  few Y = few_cells g Y grid
  few Z = few_cells g Z grid

  -- twice what enters, in fW/K
  pub source_size : unsigned_abs (floor (source m (case_of mask) (flux_on g values))) ≤ 2 ^ 111
  source_size =
      let all = whole_size m t (9 * most_flow) few (record { cells = entering_size }) in
      let is = source_is m (case_of mask) (λ a i j k. get_or values (face_number (counts_of g) a (place_at i j k)) (pos 0)) in
      twice (floor (source m (case_of mask) (flux_on g values))) (rounded_up m t) is all
    where
      twice : (z x : ℤ) → z ≡ pos (2 * 10 ^ 6) *ℤ x → unsigned_abs x ≤ 1023 * (1023 * (1023 * (9 * most_flow))) → unsigned_abs z ≤ 2 ^ 111
      twice z x e h = omega (arith, ints, e, h)

-- ---- the ends of a certified case
lower_is : (m : Mesh) (mask : ℕ) (g : Axes) (values : List ℤ) →
    lower_end m (case_of mask) (flux_on g values) ≡ floor (source m (case_of mask) (flux_on g values)) -ℤ rounded_up m (flux_terms m (flux_on g values))
unfolding lower_end
lower_is m mask g values = refl

within : (i : Interval) (hi lo source loss : ℤ) → i.hi ≡ hi → i.lo ≡ lo → lo ≡ source -ℤ loss → unsigned_abs hi ≤ 2 ^ 120 → unsigned_abs source ≤ 2 ^ 111 → loss ≤ℤ pos (2 ^ 120) →
    pos 0 ≤ℤ (hi -ℤ lo) → AreWithin (2 * half_end) i
within i hi lo source loss eh el is h s l gap = record {
  low = subst (λ (z : ℤ). unsigned_abs z ≤ 2 * half_end) (sym el) (low lo hi source loss is h s l gap);
  high = subst (λ (z : ℤ). unsigned_abs z ≤ 2 * half_end) (sym eh) (omega (arith, h));
}
  where
    low : (lo hi source loss : ℤ) → lo ≡ source -ℤ loss → unsigned_abs hi ≤ 2 ^ 120 → unsigned_abs source ≤ 2 ^ 111 → loss ≤ℤ pos (2 ^ 120) → pos 0 ≤ℤ (hi -ℤ lo) →
        unsigned_abs lo ≤ 2 * half_end
    low lo hi source loss is h s l gap = omega (arith, ints, is, h, s, l, gap)

case_within : (d : Detail) (c : CaseProof) → InLimits d → IsGrid c.grid → IsJudgeable d c → IsCertifiedCase d c → AreWithin (2 * half_end) c.interval
case_within d c limits grid can certified =
    within c.interval (upper_end (mesh_of d c) (inside_of c) (field_in c)) (lower_end (mesh_of d c) (inside_of c) (flux_in c))
    (floor (source (mesh_of d c) (inside_of c) (flux_in c))) (rounded_loss d c)
    (ap (λ (i : Interval). i.hi) certified.ends) (ap (λ (i : Interval). i.lo) certified.ends)
    (lower_is (mesh_of d c) c.case.mask c.grid c.flux)
    (upper_size d c.grid c.field c.case.mask limits can.carries grid can.temperatures)
    (source_size d c.grid c.flux c.case.mask limits grid can.flows)
    certified.loss
    (gap_not_below_zero d limits c.grid c.grid (inside_of c) (field_in c) (flux_in c) can.carries can.carries certified.balanced)

pub all_within : (d : Detail) → InLimits d → (number : ℕ) (masks : List ℕ) (cs : List CaseProof) → CasesInLimits (case_forms_from d number masks) cs → All (IsCertifiedCase d) cs →
    All (AreWithin (2 * half_end)) (map (λ c. c.interval) cs)
all_within d limits number [] [] h each = All-nil (AreWithin (2 * half_end))
all_within d limits number [] (c ∷ cs) h each = absurd h
all_within d limits number (mask ∷ masks) [] h each = absurd h
all_within d limits number (mask ∷ masks) (c ∷ cs) h each =
    All-cons (AreWithin (2 * half_end)) c.interval (map (λ c. c.interval) cs)
    (case_within d c limits h.0.grid (judgeable d number mask c limits h.0) (All-head (IsCertifiedCase d) c cs each))
    (all_within d limits (number + 1) masks cs h.1 (All-tail (IsCertifiedCase d) c cs each))
