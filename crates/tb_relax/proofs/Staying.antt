-- A move that leaves a field or a flux is the only one.
use Rattle.std.proofs.Common.{◌≡◌, refl, sym, ap, ◌∙◌, subst, arith, ℕ, Bool, true, false, ◌+◌, ◌^◌, ◌<◌, ◌≤◌, ⊎_elim, List, [], ◌∷◌, length}
use Rattle.std.proofs.lemmas.Int.{ints}
use Rattle.std.proofs.lemmas.Bool.{eqb-true, true≢false}
use Rattle.std.proofs.lemmas.List.{ext_get_or}
use Rattle.std.specs.Prelude.{IsFalse, IsTrue, eqb, not}
use Rattle.std.proofs.Math.Nat.{eq-or-lt_of_le}
use lib.IntN.{ℤ, pos, ◌+ℤ◌, ◌*ℤ◌}
use Rattle.tb_math.proofs.ReadIntegers.{by_reading, reading}
use Rattle.tb_places.specs.declared.AxisName.{AxisName}
use Rattle.tb_places.specs.declared.AxisName.TheVariants.{X, Y, Z}
use Rattle.tb_places.specs.declared.Place.{Place}
use Rattle.tb_places.specs.Inverse.{face_place}
use Rattle.tb_places.specs.Places.{Counts, IsFace, face_count, face_number, place_at}
use Rattle.tb_places.proofs.Faces.{face_number_of_place, face_place_within}
use Rattle.tb_weighted.specs.Flows.{Flows3, flow_energy}
use Rattle.tb_weighted.specs.OnMesh.{mesh_flow_forms}
use Rattle.tb_weighted.proofs.FlowBridge.{flow_energy_is}
use Rattle.tb_weighted.proofs.FlowMoves.{none_added}
use Rattle.tb_weighted.specs.FlowMoves.{counted}
use Rattle.tb_weighted.specs.Limits.{IsFlux}
use Rattle.tb_relax.specs.declared.site.Round.{Round}
use Rattle.tb_relax.specs.declared.table.Table.{Table}
use Rattle.tb_relax.specs.Edges.{first_edge}
use Rattle.tb_relax.specs.Rounds.{counts_at, round_change, round_flows}
use Rattle.tb_relax.specs.Settled.{FlowStays, loop_on}
use Rattle.tb_weighted.specs.Least.{IsNearestLeast, IsNearestLeastOf, apart}
use Rattle.tb_weighted.specs.Moves.{IsInnerEdge, IsLoopMove, IsNodeMove, KeepsLimits, loop_of, round_edge, value_at, whole_flux, with_multiple}
use Rattle.tb_weighted.specs.Weighted.{weighted_flux}
use Rattle.tb_weighted.proofs.NodeMoves.{leaves, stays}
use Rattle.tb_model.specs.Energy.{Case}
use Rattle.tb_model.specs.Mesh.{Mesh}

-- what holds of all numbers below n, and of n, holds of all below the next
pub further : (P : ℕ → Type 0) (n n' : ℕ) → n' ≡ n + 1 → ((i : ℕ) → i < n → P i) → P n → (i : ℕ) → i < n' → P i
further P n n' e below at i h = ⊎_elim (λ (last : i ≡ n). subst P (sym last) at) (λ (early : i < n). below i early) (eq-or-lt_of_le (omega (arith, h, e)))

-- what a test tells
pub not_zero : (n : ℕ) → IsTrue (not (eqb n 0)) → n ≡ 0 → ⊥
not_zero n d e = true≢false (sym d ∙ ap (λ (k : ℕ). not (eqb k 0)) e)

pub is_zero : (n : ℕ) → IsFalse (not (eqb n 0)) → n ≡ 0
is_zero n d = cases (eqb n 0) refl d
  where
    cases : (b : Bool) → eqb n 0 ≡ b → IsFalse (not b) → n ≡ 0
    cases true e f = eqb-true n 0 e
    cases false e f = absurd (true≢false f)

-- none is nearer to p than p itself
only_there : (p x : ℤ) → apart x p ≤ apart p p → x ≡ p
only_there p x h = omega (arith, ints)

-- where p is the nearest least place, any nearest least place is p
same_place : (q : ℤ → ℤ) (lo hi p x : ℤ) → IsNearestLeast q lo hi p p → IsNearestLeast q lo hi p x → x ≡ p
same_place q lo hi p x h g = only_there p x (g.nearest p h.above h.below (h.least x g.above g.below))

module _ (m : Mesh) (inside : Case) (node : ℕ) (old new : List ℤ) where
  pub node_alone : node < length old → IsNodeMove m inside node old old → IsNodeMove m inside node old new → new ≡ old
  node_alone within h g = g.rest ∙ stays old node g.value (same_place _ (pos 0) (pos (10 ^ 8)) (value_at old node) g.value
      (subst (λ (z : ℤ). IsNearestLeast _ (pos 0) (pos (10 ^ 8)) (value_at old node) z) (leaves old node h.value within (sym h.rest)) h.least) g.least)

-- ---- loops
-- what goes round an edge, as the edge's loop
pub as_loop_stays : (t : Table) (flows : List ℤ) (r : Round) (axis : AxisName) (e : Place) → ((a : AxisName) (i j k : ℕ) → round_flows r a i j k ≡ round_edge axis e a i j k) → FlowStays t flows (round_change t r) → FlowStays t flows (loop_on t axis e)
as_loop_stays t flows r axis e h s = subst (λ (u : Flows3). FlowStays t flows u) path s
  where
    path : ◌≡◌ {A = Flows3} (round_change t r) (loop_on t axis e)
    path = λ z a i j k. counted (counts_at t a i j k) (h a i j k z)

-- the bounds of an edge inside the hull
pub record Bounds (n : Counts) (axis : AxisName) (e : Place) : Type 0 where
  pub from_i : (first_edge axis).i ≤ e.i
  pub upto_i : e.i < n X
  pub from_j : (first_edge axis).j ≤ e.j
  pub upto_j : e.j < n Y
  pub from_k : (first_edge axis).k ≤ e.k
  pub upto_k : e.k < n Z

pub inner_bounds : (n : Counts) (axis : AxisName) (e : Place) → IsInnerEdge n axis e → Bounds n axis e
inner_bounds n X e (x, y, y', z, z') = record { from_i = omega arith; upto_i = x; from_j = omega (arith, y); upto_j = y'; from_k = omega (arith, z); upto_k = z' }
inner_bounds n Y e (x, x', y, z, z') = record { from_i = omega (arith, x); upto_i = x'; from_j = omega arith; upto_j = y; from_k = omega (arith, z); upto_k = z' }
inner_bounds n Z e (x, x', y, y', z) = record { from_i = omega (arith, x); upto_i = x'; from_j = omega (arith, y); upto_j = y'; from_k = omega arith; upto_k = z }

same_multiple : (q : ℤ → ℤ) (P : ℤ → Type 0) (p x : ℤ) → IsNearestLeastOf q P p p → IsNearestLeastOf q P p x → x ≡ p
same_multiple q P p x h g = only_there p x (g.nearest p h.allowed (h.least x g.allowed))

none_more : (x t c : ℤ) → t ≡ pos 0 → x +ℤ t *ℤ c ≡ x
none_more x t c e = ap (λ (z : ℤ). x +ℤ z *ℤ c) e ∙ by_reading {atoms = x ∷ c ∷ []} {a = x +ℤ pos 0 *ℤ c} {b = x} (search reading) (search reading) refl

module _ (m : Mesh) (inside : Case) (axis : AxisName) (e : Place) (old new : List ℤ) where
  abbrev energy : ℤ → ℤ
  energy t = weighted_flux m inside (whole_flux (with_multiple m.cells old (loop_of m axis e) t))

  abbrev Allowed : ℤ → Type 0
  Allowed t = KeepsLimits m.cells (with_multiple m.cells old (loop_of m axis e) t)

  as_form : ◌≡◌ {A = ℤ → ℤ} energy (λ t. flow_energy (mesh_flow_forms m inside) (with_multiple m.cells old (loop_of m axis e) t))
  as_form = λ z t. sym (flow_energy_is m inside (with_multiple m.cells old (loop_of m axis e) t)) z

  -- a loop that leaves the flows adds none
  no_multiple : IsFlux m.cells old → (h : IsLoopMove m inside axis e old old) → h.multiple ≡ pos 0
  no_multiple flux h = none_added (mesh_flow_forms m inside) (loop_of m axis e) h.multiple old old
      (record { least = subst (λ (q : ℤ → ℤ). IsNearestLeastOf q Allowed (pos 0) h.multiple) as_form h.least; faces = h.faces; added = h.added }) flux refl

  pub loop_alone : IsFlux m.cells old → IsLoopMove m inside axis e old old → IsLoopMove m inside axis e old new → new ≡ old
  loop_alone flux h g = ext_get_or (pos 0) new old g.faces (λ at l. at_number at (omega (arith, g.faces, flux.faces, l)))
    where
      none : g.multiple ≡ pos 0
      none = same_multiple energy Allowed (pos 0) g.multiple (subst (λ (t : ℤ). IsNearestLeastOf energy Allowed (pos 0) t) (no_multiple flux h) h.least) g.least

      at_face : (a : AxisName) (i j k : ℕ) → IsFace m.cells a (place_at i j k) → value_at new (face_number m.cells a (place_at i j k)) ≡ value_at old (face_number m.cells a (place_at i j k))
      at_face a i j k within = g.added a i j k within ∙ none_more (value_at old (face_number m.cells a (place_at i j k))) g.multiple (loop_of m axis e a i j k) none

      at_number : (at : ℕ) → at < face_count m.cells → value_at new at ≡ value_at old at
      at_number at l = subst (λ (n : ℕ). value_at new n ≡ value_at old n) (face_number_of_place m.cells at l)
          (at_face (face_place m.cells at).axis (face_place m.cells at).place.i (face_place m.cells at).place.j (face_place m.cells at).place.k (face_place_within m.cells at l))

-- ---- the opposite of a test
pub not_true : (b : Bool) → IsTrue (not b) → IsFalse b
not_true true d = absurd (true≢false (sym d))
not_true false d = refl

pub not_false : (b : Bool) → (IsTrue b → ⊥) → IsTrue (not b)
not_false true h = absurd (h refl)
not_false false h = refl
