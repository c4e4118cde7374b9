-- Moves of a form of flows are moves of the mesh, and one that changes the flux changes it by a multiple other than 0.
use mathlib.Core.Path.{◌≡◌, refl, sym, ap, ◌∙◌, subst}
use mathlib.Core.List.{List, [], ◌∷◌}
use mathlib.Core.Bool.{Bool}
use Prim.Native.Nat.{ℕ, ◌<◌, ◌≤◌}
use native.Mathlib.Omega.{arith}
use Rattle.std.proofs.lemmas.Int.{ints}
use Rattle.std.proofs.lemmas.List.{get_or_default}
use lib.IntN.{ℤ, pos, ◌+ℤ◌, ◌*ℤ◌}
use lib.Signed.{◌≤ℤ◌}
use Rattle.tb_math.proofs.ReadIntegers.{by_reading, reading}
use Rattle.tb_places.specs.declared.AxisName.{AxisName}
use Rattle.tb_places.specs.declared.Place.{Place}
use Rattle.tb_places.specs.Inverse.{face_place}
use Rattle.tb_places.specs.Places.{Counts, IsFace, face_count, face_number, place_at}
use Rattle.tb_places.proofs.Faces.{face_number_below, face_number_of_place, face_place_within}
use Rattle.tb_model.specs.declared.FaceKind.{FaceKind}
use Rattle.tb_model.specs.declared.FaceKind.TheVariants.{Inner, Surface, Shut, Idle}
use Rattle.tb_model.specs.Mesh.{Mesh, kind_at}
use Rattle.tb_model.specs.Energy.{Case}
use Rattle.tb_weighted.specs.Least.{IsNearestLeastOf, apart}
use Rattle.tb_weighted.specs.Limits.{IsFlux, InFlow}
use Rattle.tb_weighted.specs.Flows.{FlowForms, Flows3, flow_energy}
use Rattle.tb_weighted.specs.FlowMoves.{counted, counts_as, loop_where, IsFlowMove, IsFlowMoveBy}
use Rattle.tb_weighted.specs.Moves.{IsLoopMove, KeepsLimits, loop_of, round_edge, unless_idle, value_at, whole_flux, with_multiple}
use Rattle.tb_weighted.specs.OnMesh.{IsFlowFormOf}
use Rattle.tb_weighted.specs.Weighted.{weighted_flux}
use Rattle.tb_weighted.proofs.FlowBridge.{flow_form_is}
use Rattle.tb_weighted.proofs.SameFlows.{flows_same}

-- ---- the loop of a mesh
kind_counts : (k : FaceKind) (x : ℤ) → counted (counts_as k) x ≡ unless_idle k x
kind_counts Inner x = refl
kind_counts (Surface e rs low) x = refl
kind_counts Shut x = refl
kind_counts Idle x = refl

-- the multiples that are least of one function and of an equal one, among the same
module _ (f g : ℤ → ℤ) (P Q : ℤ → Type 0) (same : (t : ℤ) → f t ≡ g t) (forth : (t : ℤ) → P t → Q t) (back : (t : ℤ) → Q t → P t) where
  up : (x y u v : ℤ) → x ≡ u → y ≡ v → x ≤ℤ y → u ≤ℤ v
  up x y u v e h l = omega (arith, ints)

  pub least_same : (p x : ℤ) → IsNearestLeastOf f P p x → IsNearestLeastOf g Q p x
  least_same p x h = record {
    allowed = forth x h.allowed;
    least = λ y a. up (f x) (f y) (g x) (g y) (same x) (same y) (h.least y (back y a));
    nearest = λ y a l. h.nearest y (back y a) (up (g y) (g x) (f y) (f x) (sym (same y)) (sym (same x)) l);
  }

module _ (m : Mesh) (inside : Case) (f : FlowForms) (counts : AxisName → ℕ → ℕ → ℕ → Bool) (axis : AxisName) (e : Place) (old new : List ℤ)
    (form : IsFlowFormOf m inside f) (kinds : (a : AxisName) (i j k : ℕ) → IsFace m.cells a (place_at i j k) → counts a i j k ≡ counts_as (kind_at m a (place_at i j k))) where
  same_change : (a : AxisName) (i j k : ℕ) → IsFace m.cells a (place_at i j k) → loop_where counts axis e a i j k ≡ loop_of m axis e a i j k
  same_change a i j k h = ap (λ (b : Bool). counted b (round_edge axis e a i j k)) (kinds a i j k h) ∙ kind_counts (kind_at m a (place_at i j k)) (round_edge axis e a i j k)

  same_flow : (t : ℤ) (a : AxisName) (i j k : ℕ) → IsFace m.cells a (place_at i j k) → with_multiple m.cells old (loop_where counts axis e) t a i j k ≡ with_multiple m.cells old (loop_of m axis e) t a i j k
  same_flow t a i j k h = ap (λ (z : ℤ). value_at old (face_number m.cells a (place_at i j k)) +ℤ t *ℤ z) (same_change a i j k h)

  same_energy : (t : ℤ) → flow_energy f (with_multiple f.cells old (loop_where counts axis e) t) ≡ weighted_flux m inside (whole_flux (with_multiple m.cells old (loop_of m axis e) t))
  same_energy t = ap (λ (n : Counts). flow_energy f (with_multiple n old (loop_where counts axis e) t)) form.cells
      ∙ flows_same f (with_multiple m.cells old (loop_where counts axis e) t) (with_multiple m.cells old (loop_of m axis e) t) (λ a i j k h. same_flow t a i j k (subst (λ (n : Counts). IsFace n a (place_at i j k)) form.cells h))
      ∙ flow_form_is m inside f (with_multiple m.cells old (loop_of m axis e) t) form

  keeps_forth : (t : ℤ) → KeepsLimits f.cells (with_multiple f.cells old (loop_where counts axis e) t) → KeepsLimits m.cells (with_multiple m.cells old (loop_of m axis e) t)
  keeps_forth t h a i j k within = subst (λ (z : ℤ). InFlow z) (same_flow t a i j k within) (subst (λ (n : Counts). KeepsLimits n (with_multiple n old (loop_where counts axis e) t)) form.cells h a i j k within)

  keeps_back : (t : ℤ) → KeepsLimits m.cells (with_multiple m.cells old (loop_of m axis e) t) → KeepsLimits f.cells (with_multiple f.cells old (loop_where counts axis e) t)
  keeps_back t h = subst (λ (n : Counts). KeepsLimits n (with_multiple n old (loop_where counts axis e) t)) (sym form.cells) (λ a i j k within. subst (λ (z : ℤ). InFlow z) (sym (same_flow t a i j k within)) (h a i j k within))

  pub loop_move : IsFlowMove f (loop_where counts axis e) old new → IsLoopMove m inside axis e old new
  loop_move h = record {
    multiple = h.multiple;
    least = least_same (λ t. flow_energy f (with_multiple f.cells old (loop_where counts axis e) t)) (λ t. weighted_flux m inside (whole_flux (with_multiple m.cells old (loop_of m axis e) t)))
        (λ t. KeepsLimits f.cells (with_multiple f.cells old (loop_where counts axis e) t)) (λ t. KeepsLimits m.cells (with_multiple m.cells old (loop_of m axis e) t)) same_energy keeps_forth keeps_back (pos 0) h.multiple h.move.least;
    faces = h.move.faces;
    added = λ a i j k within.
        subst (λ (n : Counts). (a : AxisName) (i j k : ℕ) → IsFace n a (place_at i j k) → value_at new (face_number n a (place_at i j k)) ≡ with_multiple n old (loop_where counts axis e) h.multiple a i j k) form.cells h.move.added a i j k within
        ∙ same_flow h.multiple a i j k within;
  }

-- ---- what a move keeps and tells
no_more : (x y c : ℤ) → y ≡ x → x +ℤ pos 0 *ℤ c ≡ y
no_more x y c e = by_reading {atoms = x ∷ c ∷ []} {a = x +ℤ pos 0 *ℤ c} {b = x} (search reading) (search reading) refl ∙ sym e

near_none : (t : ℤ) → apart t (pos 0) ≤ apart (pos 0) (pos 0) → t ≡ pos 0
near_none t h = omega (arith, ints)

no_less : (x y : ℤ) → x ≡ y → x ≤ℤ y
no_less x y e = omega (arith, ints)

module _ (f : FlowForms) (change : Flows3) (t : ℤ) (old new : List ℤ) (h : IsFlowMoveBy f change t old new) where
  -- a multiple that leaves the flux as it was is none, since none is as good and nearer
  pub none_added : IsFlux f.cells old → new ≡ old → t ≡ pos 0
  none_added flux same = near_none t (h.least.nearest (pos 0) keeps (no_less _ _ (flows_same f (with_multiple f.cells old change (pos 0)) (with_multiple f.cells old change t) equal)))
    where
      equal : (a : AxisName) (i j k : ℕ) → IsFace f.cells a (place_at i j k) → with_multiple f.cells old change (pos 0) a i j k ≡ with_multiple f.cells old change t a i j k
      equal a i j k within = no_more (value_at old (face_number f.cells a (place_at i j k))) _ (change a i j k) (ap (λ (l : List ℤ). value_at l (face_number f.cells a (place_at i j k))) same) ∙ h.added a i j k within

      keeps : KeepsLimits f.cells (with_multiple f.cells old change (pos 0))
      keeps a i j k within = subst (λ (z : ℤ). InFlow z) (sym (no_more (value_at old (face_number f.cells a (place_at i j k))) (value_at old (face_number f.cells a (place_at i j k))) (change a i j k) refl))
          (flux.within (face_number f.cells a (place_at i j k)) (pos 0) (let b = face_number_below f.cells a (place_at i j k) within in omega (arith, flux.faces)))

  -- one by 0 may as well leave it
  pub none_moved : t ≡ pos 0 → IsFlowMoveBy f change t old old
  none_moved e = record {
    least = h.least;
    faces = refl;
    added = λ a i j k within. sym (ap (λ (z : ℤ). value_at old (face_number f.cells a (place_at i j k)) +ℤ z *ℤ change a i j k) e ∙ no_more (value_at old (face_number f.cells a (place_at i j k))) (value_at old (face_number f.cells a (place_at i j k))) (change a i j k) refl);
  }

  -- a move keeps the limits
  pub flux_kept : IsFlux f.cells old → IsFlux f.cells new
  flux_kept flux = record {
    faces = h.faces ∙ flux.faces;
    within = λ at d l. subst (λ (z : ℤ). InFlow z) (get_or_default new at (pos 0) d l) (at_number at (omega (arith, h.faces, flux.faces)));
  }
    where
      at_face : (a : AxisName) (i j k : ℕ) → IsFace f.cells a (place_at i j k) → InFlow (value_at new (face_number f.cells a (place_at i j k)))
      at_face a i j k within = subst (λ (z : ℤ). InFlow z) (sym (h.added a i j k within)) (h.least.allowed a i j k within)

      at_number : (at : ℕ) → at < face_count f.cells → InFlow (value_at new at)
      at_number at l = subst (λ (z : ℕ). InFlow (value_at new z)) (face_number_of_place f.cells at l)
          (at_face (face_place f.cells at).axis (face_place f.cells at).place.i (face_place f.cells at).place.j (face_place f.cells at).place.k (face_place_within f.cells at l))
