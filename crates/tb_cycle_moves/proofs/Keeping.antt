-- The move of a cycle keeps the balance and the limits of a flux, and raises no weighted energy.
use Rattle.std.proofs.Common.{◌≡◌, inl, inr, refl, sym, ap, ◌∙◌, subst, arith, ℕ, suc, ◌<◌, ◌≤◌, Bool, List, [], ◌∷◌}
use Rattle.std.proofs.lemmas.Int.{ints}
use Rattle.std.proofs.lemmas.List.{get_or_default}
use lib.IntN.{ℤ, pos, ◌+ℤ◌, ◌-ℤ◌, ◌*ℤ◌}
use lib.Signed.{◌≤ℤ◌}
use Rattle.tb_math.specs.Rational.{int}
use Rattle.tb_math.specs.Ceiling.{ceiling}
use Rattle.tb_math.proofs.CeilingLaws.{ceiling-int}
use Rattle.tb_math.proofs.ReadIntegers.{by_reading, reading}
use Rattle.tb_places.specs.declared.AxisName.{AxisName}
use Rattle.tb_places.specs.declared.AxisName.TheVariants.{X, Y, Z}
use Rattle.tb_places.specs.Inverse.{face_place}
use Rattle.tb_places.specs.Places.{IsFace, along, face_count, face_number, place_at, second, third}
use Rattle.tb_places.proofs.Faces.{face_number_below, face_number_of_place, face_place_within}
use Rattle.tb_model.specs.declared.FaceKind.TheVariants.{Shut}
use Rattle.tb_model.specs.Energy.{Case, IsBalanced}
use Rattle.tb_model.specs.Mesh.{Mesh, kind}
use Rattle.tb_weighted.specs.Flows.{Flows3, flows_of}
use Rattle.tb_weighted.specs.Limits.{InFlow, IsFlux}
use Rattle.tb_weighted.specs.Moves.{KeepsLimits, counting, value_at, whole_flux, with_multiple}
use Rattle.tb_weighted.specs.OnMesh.{mesh_flow_forms}
use Rattle.tb_weighted.specs.Sequences.{AreMade}
use Rattle.tb_weighted.specs.Weighted.{weighted_flux}
use Rattle.tb_weighted.proofs.FlowBridge.{flow_energy_is}
use Rattle.tb_weighted.proofs.SameFlows.{flows_same}
use Rattle.tb_relax.proofs.RoundFlows.{leaving, whole_leaving}
use Rattle.tb_cycles.specs.Moves.{IsCycleMove, flows_through}
use Rattle.tb_cycle_moves.specs.Turns.{AreCycleTurns, IsCycleTurn}

-- ---- balance
six : (t o1 o2 o3 o4 o5 o6 r1 r2 r3 r4 r5 r6 : ℤ)
    → ((o1 +ℤ t *ℤ r1) -ℤ (o2 +ℤ t *ℤ r2)) +ℤ ((o3 +ℤ t *ℤ r3) -ℤ (o4 +ℤ t *ℤ r4)) +ℤ ((o5 +ℤ t *ℤ r5) -ℤ (o6 +ℤ t *ℤ r6)) ≡ ((o1 -ℤ o2) +ℤ (o3 -ℤ o4) +ℤ (o5 -ℤ o6)) +ℤ t *ℤ ((r1 -ℤ r2) +ℤ (r3 -ℤ r4) +ℤ (r5 -ℤ r6))
six t o1 o2 o3 o4 o5 o6 r1 r2 r3 r4 r5 r6 = by_reading {atoms = t ∷ o1 ∷ o2 ∷ o3 ∷ o4 ∷ o5 ∷ o6 ∷ r1 ∷ r2 ∷ r3 ∷ r4 ∷ r5 ∷ r6 ∷ []} (search reading depth 60 fits 100000) (search reading depth 60 fits 100000) refl

same_six : {a b c d f g a' b' c' d' f' g' : ℤ} → a ≡ a' → b ≡ b' → c ≡ c' → d ≡ d' → f ≡ f' → g ≡ g' → (a -ℤ b) +ℤ (c -ℤ d) +ℤ (f -ℤ g) ≡ (a' -ℤ b') +ℤ (c' -ℤ d') +ℤ (f' -ℤ g')
same_six u v w x y z = rw (u, v, w, x, y, z) refl

none_both : (t x y : ℤ) → x ≡ pos 0 → y ≡ pos 0 → x +ℤ t *ℤ y ≡ pos 0
none_both t x y e f = rw (e, f) (by_reading {atoms = t ∷ []} (search reading) (search reading) refl)

whole_none : (z : ℤ) → int z ≡ int (pos 0) → z ≡ pos 0
whole_none z e = sym (ceiling-int z) ∙ ap ceiling e ∙ ceiling-int (pos 0)

module _ (m : Mesh) (inside : Case) (face : ℕ) (old new : List ℤ) (move : IsCycleMove m inside face old new) where
  abbrev q : Flows3
  q = flows_of m.cells old

  abbrev q' : Flows3
  q' = flows_of m.cells new

  abbrev z : Flows3
  z = flows_of m.cells move.cycle

  abbrev t : ℤ
  t = move.multiple

  at_face : (a : AxisName) (i j k : ℕ) → IsFace m.cells a (place_at i j k) → q' a i j k ≡ q a i j k +ℤ t *ℤ z a i j k
  at_face a i j k h = move.added a i j k h

  cell_leaving : (i j k : ℕ) → i < m.cells X → j < m.cells Y → k < m.cells Z → leaving q' i j k ≡ leaving q i j k +ℤ t *ℤ leaving z i j k
  cell_leaving i j k hx hy hz =
      same_six (at_face X (suc i) j k (omega (arith, hx), hy, hz)) (at_face X i j k (omega (arith, hx), hy, hz)) (at_face Y i (suc j) k (hx, omega (arith, hy), hz)) (at_face Y i j k (hx, omega (arith, hy), hz))
      (at_face Z i j (suc k) (hx, hy, omega (arith, hz))) (at_face Z i j k (hx, hy, omega (arith, hz)))
      ∙ six t (q X (suc i) j k) (q X i j k) (q Y i (suc j) k) (q Y i j k) (q Z i j (suc k)) (q Z i j k) (z X (suc i) j k) (z X i j k) (z Y i (suc j) k) (z Y i j k) (z Z i j (suc k)) (z Z i j k)

  pub keeps_balance : IsBalanced m (whole_flux q) → IsBalanced m (whole_flux q')
  keeps_balance b = record {
    cells = λ i j k n hx hy hz s.
        whole_leaving q' i j k
        ∙ ap int (cell_leaving i j k hx hy hz
        ∙ none_both t (leaving q i j k) (leaving z i j k) (whole_none (leaving q i j k) (sym (whole_leaving q i j k) ∙ b.cells i j k n hx hy hz s))
        (whole_none (leaving z i j k) (sym (whole_leaving z i j k) ∙ cycle.cells i j k n hx hy hz s)));
    shut = shut;
  }
    where
      cycle : IsBalanced m (whole_flux z)
      cycle = move.is_cycle.cycle.balanced

      none : (a : AxisName) (i j k : ℕ) → IsFace m.cells a (place_at i j k) → int (q a i j k) ≡ int (pos 0) → int (z a i j k) ≡ int (pos 0) → int (q' a i j k) ≡ int (pos 0)
      none a i j k h e f = ap int (at_face a i j k h ∙ none_both t (q a i j k) (z a i j k) (whole_none (q a i j k) e) (whole_none (z a i j k) f))

      shut : (a : AxisName) (i j k : ℕ) → i ≤ m.cells a → j < m.cells (second a) → k < m.cells (third a) → kind m a i j k ≡ Shut → along a (whole_flux q' a) i j k ≡ int (pos 0)
      shut X i j k hi hj hk s = none X i j k (hi, hj, hk) (b.shut X i j k hi hj hk s) (cycle.shut X i j k hi hj hk s)
      shut Y i j k hi hj hk s = none Y j i k (hj, hi, hk) (b.shut Y i j k hi hj hk s) (cycle.shut Y i j k hi hj hk s)
      shut Z i j k hi hj hk s = none Z j k i (hj, hk, hi) (b.shut Z i j k hi hj hk s) (cycle.shut Z i j k hi hj hk s)

  -- ---- limits
  pub keeps_limits : IsFlux m.cells old → IsFlux m.cells new
  keeps_limits flux = record {
    faces = move.faces ∙ flux.faces;
    within = λ at d l. subst (λ (x : ℤ). InFlow x) (get_or_default new at (pos 0) d l) (at_number at (omega (arith, move.faces, flux.faces)));
  }
    where
      at_place : (a : AxisName) (i j k : ℕ) → IsFace m.cells a (place_at i j k) → InFlow (value_at new (face_number m.cells a (place_at i j k)))
      at_place a i j k within = subst (λ (x : ℤ). InFlow x) (sym (move.added a i j k within)) (move.least.allowed a i j k within)

      at_number : (at : ℕ) → at < face_count m.cells → InFlow (value_at new at)
      at_number at l = subst (λ (x : ℕ). InFlow (value_at new x)) (face_number_of_place m.cells at l)
          (at_place (face_place m.cells at).axis (face_place m.cells at).place.i (face_place m.cells at).place.j (face_place m.cells at).place.k (face_place_within m.cells at l))

  -- ---- energy
  no_more : (x c : ℤ) → x +ℤ pos 0 *ℤ c ≡ x
  no_more x c = by_reading {atoms = x ∷ c ∷ []} (search reading) (search reading) refl

  at_most : (x y u v : ℤ) → x ≡ u → y ≡ v → u ≤ℤ v → x ≤ℤ y
  at_most x y u v e f l = omega (arith, ints)

  same_flux : (u v : Flows3) → ((a : AxisName) (i j k : ℕ) → IsFace m.cells a (place_at i j k) → u a i j k ≡ v a i j k) → weighted_flux m inside (whole_flux u) ≡ weighted_flux m inside (whole_flux v)
  same_flux u v h = sym (flow_energy_is m inside u) ∙ flows_same (mesh_flow_forms m inside) u v h ∙ flow_energy_is m inside v

  pub none_keeps : IsFlux m.cells old → KeepsLimits m.cells (with_multiple m.cells old (flows_through m.cells move.cycle) (pos 0))
  none_keeps flux a i j k w = subst (λ (x : ℤ). InFlow x) (sym (no_more (value_at old (face_number m.cells a (place_at i j k))) (z a i j k)))
      (flux.within (face_number m.cells a (place_at i j k)) (pos 0) (let b = face_number_below m.cells a (place_at i j k) w in omega (arith, flux.faces)))

  pub lowers : IsFlux m.cells old → weighted_flux m inside (whole_flux q') ≤ℤ weighted_flux m inside (whole_flux q)
  lowers flux =
      at_most (weighted_flux m inside (whole_flux q')) (weighted_flux m inside (whole_flux q))
      (weighted_flux m inside (whole_flux (with_multiple m.cells old (flows_through m.cells move.cycle) t))) (weighted_flux m inside (whole_flux (with_multiple m.cells old (flows_through m.cells move.cycle) (pos 0))))
      (same_flux q' (with_multiple m.cells old (flows_through m.cells move.cycle) t) move.added)
      (same_flux q (with_multiple m.cells old (flows_through m.cells move.cycle) (pos 0)) (λ a i j k w. sym (no_more (value_at old (face_number m.cells a (place_at i j k))) (z a i j k))))
      (move.least.least (pos 0) (none_keeps flux))

-- ---- the moves of all cycles
module _ (m : Mesh) (inside : Case) where
  abbrev Balanced : List ℤ → Type 0
  Balanced flows = IsBalanced m (whole_flux (flows_of m.cells flows))

  by_turn : (face : ℕ) (old new : List ℤ) → IsCycleTurn m inside face old new → Balanced old → Balanced new
  by_turn face old new (inl move) b = keeps_balance m inside face old new move b
  by_turn face old new (inr (none, same)) b = subst Balanced (sym same) b

  by_turns : (faces : List ℕ) (old new : List ℤ) (told : Bool) → AreMade (List ℤ) ℕ (IsCycleTurn m inside) faces old new told → Balanced old → Balanced new
  by_turns [] old new told (same, none) b = subst Balanced (sym same) b
  by_turns (face ∷ faces) old new told made b = by_turns faces made.mid new made.told_after made.after (by_turn face old made.mid made.step b)

  pub turns_keep_balance : (old new : List ℤ) (told : Bool) → AreCycleTurns m inside old new told → Balanced old → Balanced new
  turns_keep_balance old new told made b = by_turns (counting 0 (face_count m.cells)) old new told made b
