-- A move raises no energy: what it leaves as it was is among what it chooses from.
use mathlib.Core.Path.{◌≡◌, refl, sym, ◌∙◌, subst}
use mathlib.Core.List.{List, [], ◌∷◌}
use Prim.Native.Nat.{ℕ}
use native.Mathlib.Omega.{arith}
use Rattle.std.proofs.Common.{set}
use Rattle.std.proofs.lemmas.Int.{ints}
use Rattle.std.proofs.lemmas.List.{set-get_or}
use lib.IntN.{ℤ, pos, ◌+ℤ◌, ◌*ℤ◌}
use lib.Signed.{◌≤ℤ◌}
use Rattle.tb_math.proofs.ReadIntegers.{by_reading, reading}
use Rattle.tb_places.specs.declared.AxisName.{AxisName}
use Rattle.tb_places.specs.declared.Place.{Place}
use Rattle.tb_places.specs.Places.{IsFace, face_number, place_at}
use Rattle.tb_places.proofs.Faces.{face_number_below}
use Rattle.tb_model.specs.Energy.{Case}
use Rattle.tb_model.specs.Mesh.{Mesh}
use Rattle.tb_model.specs.Values.{field_of}
use Rattle.tb_weighted.specs.Flows.{Flows3, flows_of}
use Rattle.tb_weighted.specs.Limits.{InField, InFlow, IsFlux}
use Rattle.tb_weighted.specs.Moves.{IsLoopMove, IsNodeMove, KeepsLimits, loop_of, value_at, whole_flux, with_multiple}
use Rattle.tb_weighted.specs.OnMesh.{mesh_flow_forms}
use Rattle.tb_weighted.specs.Weighted.{weighted_field, weighted_flux}
use Rattle.tb_weighted.proofs.FlowBridge.{flow_energy_is}
use Rattle.tb_weighted.proofs.SameFlows.{flows_same}

pub node_lowers : (m : Mesh) (inside : Case) (node : ℕ) (old new : List ℤ) → IsNodeMove m inside node old new → InField (value_at old node)
    → weighted_field m inside (field_of m.cells new) ≤ℤ weighted_field m inside (field_of m.cells old)
node_lowers m inside node old new h k =
    subst (λ (l : List ℤ). weighted_field m inside (field_of m.cells l) ≤ℤ weighted_field m inside (field_of m.cells old)) (sym h.rest)
    (subst (λ (l : List ℤ). weighted_field m inside (field_of m.cells (set old node h.value)) ≤ℤ weighted_field m inside (field_of m.cells l)) (set-get_or old node (pos 0)) (h.least.least (value_at old node) k.0 k.1))

no_more : (x c : ℤ) → x +ℤ pos 0 *ℤ c ≡ x
no_more x c = by_reading {atoms = x ∷ c ∷ []} (search reading) (search reading) refl

at_most : (x y u v : ℤ) → x ≡ u → y ≡ v → u ≤ℤ v → x ≤ℤ y
at_most x y u v e f l = omega (arith, ints)

-- fluxes that agree on the faces of a mesh
same_flux : (m : Mesh) (inside : Case) (q r : Flows3) → ((a : AxisName) (i j k : ℕ) → IsFace m.cells a (place_at i j k) → q a i j k ≡ r a i j k) → weighted_flux m inside (whole_flux q) ≡ weighted_flux m inside (whole_flux r)
same_flux m inside q r h = sym (flow_energy_is m inside q) ∙ flows_same (mesh_flow_forms m inside) q r h ∙ flow_energy_is m inside r

pub loop_lowers : (m : Mesh) (inside : Case) (axis : AxisName) (e : Place) (old new : List ℤ) → IsLoopMove m inside axis e old new → IsFlux m.cells old
    → weighted_flux m inside (whole_flux (flows_of m.cells new)) ≤ℤ weighted_flux m inside (whole_flux (flows_of m.cells old))
loop_lowers m inside axis e old new h flux =
    at_most (weighted_flux m inside (whole_flux (flows_of m.cells new))) (weighted_flux m inside (whole_flux (flows_of m.cells old)))
    (weighted_flux m inside (whole_flux (with_multiple m.cells old (loop_of m axis e) h.multiple))) (weighted_flux m inside (whole_flux (with_multiple m.cells old (loop_of m axis e) (pos 0))))
    (same_flux m inside (flows_of m.cells new) (with_multiple m.cells old (loop_of m axis e) h.multiple) h.added)
    (same_flux m inside (flows_of m.cells old) (with_multiple m.cells old (loop_of m axis e) (pos 0)) (λ a i j k w. sym (no_more (value_at old (face_number m.cells a (place_at i j k))) (loop_of m axis e a i j k))))
    (h.least.least (pos 0) keeps)
  where
    keeps : KeepsLimits m.cells (with_multiple m.cells old (loop_of m axis e) (pos 0))
    keeps a i j k w = subst (λ (z : ℤ). InFlow z) (sym (no_more (value_at old (face_number m.cells a (place_at i j k))) (loop_of m axis e a i j k)))
        (flux.within (face_number m.cells a (place_at i j k)) (pos 0) (let b = face_number_below m.cells a (place_at i j k) w in omega (arith, flux.faces)))
