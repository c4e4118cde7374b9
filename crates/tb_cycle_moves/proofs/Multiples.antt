-- The multiple that is least of what a walk finds is the cycle's move.
use Rattle.std.proofs.Common.{◌≡◌, ◌≢◌, inl, refl, sym, ap, ◌∙◌, subst, arith, ⊎_elim, ℕ, zero, suc, ◌<◌, ◌≤◌, List, [], ◌∷◌, length}
use Rattle.std.specs.Prelude.{neg_ℤ, unsigned_abs, ◌*◌, ◌^◌, negsuc}
use Rattle.std.proofs.lemmas.Bool.{cases_lt}
use Rattle.std.proofs.lemmas.Int.{ints}
use Rattle.std.proofs.lemmas.List.{get_or_default, get_or_past}
use lib.IntN.{ℤ, pos, ◌+ℤ◌, ◌*ℤ◌}
use lib.Signed.{◌≤ℤ◌}
use Rattle.tb_math.proofs.ReadIntegers.{by_reading, reading}
use Rattle.tb_places.specs.Inverse.{face_place}
use Rattle.tb_places.specs.Places.{Counts, face_count, face_number, place_at}
use Rattle.tb_places.proofs.Faces.{face_number_of_place, face_place_within}
use Rattle.tb_model.specs.Energy.{Case}
use Rattle.tb_model.specs.Mesh.{Mesh}
use Rattle.tb_outlets.specs.declared.side.Side.{Side}
use Rattle.tb_outlets.specs.declared.side.Side.TheVariants.{Low, High}
use Rattle.tb_outlets.specs.Balancing.{flow}
use Rattle.tb_outlets.specs.Cycles.{out}
use Rattle.tb_outlets.specs.Repair.{IsCycle}
use Rattle.tb_outlets.specs.Sides.{face_of}
use Rattle.tb_weighted.specs.Flows.{flow_energy, flow_rate, flow_slope, flows_of}
use Rattle.tb_weighted.specs.Least.{IsNearestLeastOf, parabola}
use Rattle.tb_weighted.specs.Limits.{InFlow, IsFlux}
use Rattle.tb_weighted.specs.Moves.{with_multiple}
use Rattle.tb_weighted.proofs.FlowBridge.{flow_form_is}
use Rattle.tb_weighted.proofs.FlowLaws.{flows_parabola}
use Rattle.tb_weighted.proofs.Rounds.{least_of}
use Rattle.tb_weighted.proofs.Unique.{IsParabola}
use Rattle.tb_relax.specs.declared.joining.Reach.{Reach}
use Rattle.tb_relax.specs.declared.table.Table.{Table}
use Rattle.tb_relax.specs.Joining.{Within}
use Rattle.tb_relax.specs.Passes.{IsTableOf}
use Rattle.tb_relax.specs.Tables.{flux_forms, table_counts}
use Rattle.tb_cycles.specs.Entries.{IsEntry}
use Rattle.tb_cycles.specs.Moves.{IsCycleMove, flows_through}
use Rattle.tb_cycle_moves.specs.Courses.{IsReachOf}
use Rattle.tb_cycle_moves.specs.Turns.{CycleMoves, IsLeastMultiple, Keeps, energy_with}
use Rattle.tb_cycle_moves.proofs.Sizes.{all_limits}
use Rattle.tb_cycle_moves.proofs.Surveying.{KeepAll}

-- ---- limits at all faces, by number and by place
pub all_keep : (m : Mesh) (old cycle : List ℤ) (x : ℤ) → KeepAll old cycle x → Keeps m old cycle x
all_keep m old cycle x all a i j k face = all (face_number m.cells a (place_at i j k))

nothing_flows : (x o z : ℤ) → o ≡ pos 0 → z ≡ pos 0 → o +ℤ x *ℤ z ≡ pos 0
nothing_flows x o z e f = rw (e, f) (by_reading {atoms = x ∷ []} (search reading) (search reading) refl)

none_past : (x o z : ℤ) → o ≡ pos 0 → z ≡ pos 0 → InFlow (o +ℤ x *ℤ z)
none_past x o z e f = subst InFlow (sym (nothing_flows x o z e f)) (omega arith)

pub keep_all : (m : Mesh) (old cycle : List ℤ) (x : ℤ) → length old ≡ face_count m.cells → length cycle ≡ face_count m.cells → Keeps m old cycle x → KeepAll old cycle x
keep_all m old cycle x long other keeps g = ⊎_elim
    (λ (l : g < face_count m.cells). subst (λ (h : ℕ). InFlow (flow old h +ℤ x *ℤ flow cycle h)) (face_number_of_place m.cells g l)
    (keeps (face_place m.cells g).axis (face_place m.cells g).place.i (face_place m.cells g).place.j (face_place m.cells g).place.k (face_place_within m.cells g l)))
    (λ (l : face_count m.cells ≤ g). none_past x (flow old g) (flow cycle g) (get_or_past old g (pos 0) (omega arith)) (get_or_past cycle g (pos 0) (omega arith)))
    (cases_lt g (face_count m.cells))

-- ---- the least multiple
is_in : (l h : ℤ) → l ≤ℤ pos 0 → pos 0 ≤ℤ h → (l ≤ℤ pos 0) × (pos 0 ≤ℤ h)
is_in l h p q = (p, q)

module _ (m : Mesh) (t : Table) (same : table_counts t ≡ m.cells) (old cycle : List ℤ) (long : length old ≡ face_count m.cells) (other : length cycle ≡ face_count m.cells) (r : Reach) (reach : IsReachOf m t old cycle r)
    (under : r.low ≤ℤ pos 0) (over : pos 0 ≤ℤ r.high) (step : ℤ) (least : IsNearestLeastOf (parabola r.pull.rate r.pull.slope) (Within r) (pos 0) step) where
  pub step_keeps : Keeps m old cycle step
  step_keeps = all_keep m old cycle step ((reach.within step).0 least.allowed)

  energy_is : (inside : Case) → IsTableOf m inside t → IsParabola (energy_with m inside old cycle) (flow_rate (flux_forms t) (flows_through m.cells cycle)) (flow_slope (flux_forms t) (flows_of m.cells old) (flows_through m.cells cycle)) (flow_energy (flux_forms t) (flows_of m.cells old))
  unfolding flux_forms
  energy_is inside of = record {
    at = λ x. sym (flow_form_is m inside (flux_forms t) (with_multiple m.cells old (flows_through m.cells cycle) x) of.flux)
        ∙ (flows_parabola (flux_forms t) (flows_of m.cells old) (flows_through m.cells cycle)).at x;
  }

  pub step_is_least : IsLeastMultiple m t old cycle step
  step_is_least = record {
    keeps = step_keeps;
    least = λ inside of. least_of (energy_with m inside old cycle) _ _ _ r.pull.rate r.pull.slope (energy_is inside of) (reach.rate inside of) reach.slope (Within r) (Keeps m old cycle) step least
        step_keeps (is_in r.low r.high under over) (λ y keeps. inl ((reach.within y).1 (keep_all m old cycle y long other keeps)));
  }

-- ---- the flux with a multiple of the cycle added
entry_small : (s : Side) (o x z : ℤ) → z ≡ neg_ℤ (out s) → InFlow o → InFlow (o +ℤ x *ℤ z) → unsigned_abs x ≤ 2 * 10 ^ 12
entry_small (Low a) o x z e p q = let q' : InFlow (o +ℤ x) = subst (λ (y : ℤ). InFlow (o +ℤ y)) (ap (λ (y : ℤ). x *ℤ y) e ∙ by_one x) q in omega (arith, ints)
  where
    by_one : (x : ℤ) → x *ℤ pos 1 ≡ x
    by_one x = by_reading {atoms = x ∷ []} (search reading) (search reading) refl
entry_small (High a) o x z e p q = let q' : InFlow (o +ℤ neg_ℤ x) = subst (λ (y : ℤ). InFlow (o +ℤ y)) (ap (λ (y : ℤ). x *ℤ y) e ∙ by_one x) q in omega (arith, ints)
  where
    by_one : (x : ℤ) → x *ℤ negsuc 0 ≡ neg_ℤ x
    by_one x = by_reading {atoms = x ∷ []} (search reading) (search reading) refl

entry_none : (s : Side) (o x z : ℤ) → z ≡ neg_ℤ (out s) → o ≡ o +ℤ x *ℤ z → x ≡ pos 0
entry_none (Low a) o x z e q = let q' : o ≡ o +ℤ x = q ∙ ap (λ (y : ℤ). o +ℤ y) (ap (λ (y : ℤ). x *ℤ y) e ∙ by_one x) in omega (arith, ints)
  where
    by_one : (x : ℤ) → x *ℤ pos 1 ≡ x
    by_one x = by_reading {atoms = x ∷ []} (search reading) (search reading) refl
entry_none (High a) o x z e q = let q' : o ≡ o +ℤ neg_ℤ x = q ∙ ap (λ (y : ℤ). o +ℤ y) (ap (λ (y : ℤ). x *ℤ y) e ∙ by_one x) in omega (arith, ints)
  where
    by_one : (x : ℤ) → x *ℤ negsuc 0 ≡ neg_ℤ x
    by_one x = by_reading {atoms = x ∷ []} (search reading) (search reading) refl

none_added : (o x z : ℤ) → x ≡ pos 0 → o ≡ o +ℤ x *ℤ z
none_added o x z e = sym (ap (λ (y : ℤ). o +ℤ y *ℤ z) e ∙ by_reading {atoms = o ∷ z ∷ []} {a = o +ℤ pos 0 *ℤ z} {b = o} (search reading) (search reading) refl)

-- a list with a multiple of another added
pub with_added : List ℤ → List ℤ → ℤ → List ℤ
with_added [] zs x = []
with_added (o ∷ os) [] x = o ∷ os
with_added (o ∷ os) (z ∷ zs) x = (o +ℤ x *ℤ z) ∷ with_added os zs x

added_length : (os zs : List ℤ) (x : ℤ) → length (with_added os zs x) ≡ length os
unfolding with_added
added_length [] zs x = refl
added_length (o ∷ os) [] x = refl
added_length (o ∷ os) (z ∷ zs) x = ap suc (added_length os zs x)

nothing_there : (x : ℤ) → pos 0 ≡ pos 0 +ℤ x *ℤ pos 0
nothing_there x = by_reading {atoms = x ∷ []} (search reading) (search reading) refl

added_at : (os zs : List ℤ) (x : ℤ) → length os ≡ length zs → (g : ℕ) → flow (with_added os zs x) g ≡ flow os g +ℤ x *ℤ flow zs g
unfolding with_added
added_at [] [] x e g = nothing_there x
added_at [] (z ∷ zs) x e g = absurd (omega (arith, e))
added_at (o ∷ os) [] x e g = absurd (omega (arith, e))
added_at (o ∷ os) (z ∷ zs) x e zero = refl
added_at (o ∷ os) (z ∷ zs) x e (suc g) = added_at os zs x (omega (arith, e)) g

module _ (m : Mesh) (t : Table) (same : table_counts t ≡ m.cells) (old : List ℤ) (flux : IsFlux (table_counts t) old) (c : ℕ) (s : Side) (f : ℕ) (entry : IsEntry m f c s) (cycle : List ℤ) (is : IsCycle m c s cycle)
    (x : ℤ) (least : IsLeastMultiple m t old cycle x) where
  old_long : length old ≡ face_count m.cells
  old_long = flux.faces ∙ ap (λ (n : Counts). face_count n) same

  all : KeepAll old cycle x
  all = keep_all m old cycle x old_long is.count least.keeps

  pub multiple_small : unsigned_abs x ≤ 2 * 10 ^ 12
  multiple_small = let k = face_of m.cells c s in
      entry_small s (flow old k) x (flow cycle k) is.enters (all_limits (table_counts t) old flux k) (all k)

  module _ (new : List ℤ) (faces : length new ≡ face_count m.cells) (added : (g : ℕ) → flow new g ≡ flow old g +ℤ x *ℤ flow cycle g) where
    pub is_moved : (inside : Case) → IsTableOf m inside t → IsCycleMove m inside f old new
    is_moved inside of = record {
      cycle = cycle;
      is_cycle = record { cell = c; side = s; entry = entry; cycle = is };
      multiple = x;
      least = least.least inside of;
      faces = faces ∙ sym old_long;
      added = λ a i j k within. added (face_number m.cells a (place_at i j k));
    }

    pub is_told : new ≡ old → x ≡ pos 0
    is_told e = let k = face_of m.cells c s in
        entry_none s (flow old k) x (flow cycle k) is.enters (sym (ap (λ (l : List ℤ). flow l k) e) ∙ added k)

    pub is_kept : IsFlux (table_counts t) new
    is_kept = record {
      faces = faces ∙ sym (ap (λ (n : Counts). face_count n) same);
      within = λ at d l. subst InFlow (get_or_default new at (pos 0) d l) (subst InFlow (sym (added at)) (all at));
    }

  -- a multiple of 0 leaves the flux
  pub is_left : x ≡ pos 0 → (inside : Case) → IsTableOf m inside t → IsCycleMove m inside f old old
  is_left e = is_moved old old_long (λ g. none_added (flow old g) x (flow cycle g) e)

  -- and another one doesn't
  pub would_move : x ≢ pos 0 → (inside : Case) → IsTableOf m inside t → CycleMoves m inside f old
  would_move other inside of = record {
    new = with_added old cycle x;
    move = is_moved (with_added old cycle x) (added_length old cycle x ∙ old_long) (added_at old cycle x (old_long ∙ sym is.count)) inside of;
    differs = λ e. other (is_told (with_added old cycle x) (added_length old cycle x ∙ old_long) (added_at old cycle x (old_long ∙ sym is.count)) e);
  }
