-- The walk along a cycle at its beginning, and as a program takes it.
use Rattle.std.proofs.Common.{◌≡◌, ◌≢◌, ◌↔◌, refl, sym, ◌∙◌, subst, arith, ℕ, ◌<◌, List, length}
use Rattle.std.specs.Prelude.{neg_ℤ}
use Rattle.std.proofs.lemmas.List.{length-replicate}
use Rattle.std.proofs.Math.ListN.{replicate}
use lib.IntN.{ℤ, pos, ◌+ℤ◌, ◌*ℤ◌}
use Rattle.tb_math.proofs.ReadIntegers.{by_reading, reading}
use Rattle.std.proofs.Common.{[], ◌∷◌}
use Rattle.tb_places.specs.declared.Place.{Place}
use Rattle.tb_places.specs.Inverse.{cell_place}
use Rattle.tb_places.specs.Places.{Counts, face_count}
use Rattle.tb_model.specs.Mesh.{Mesh}
use Rattle.tb_outlets.specs.declared.marks.Mark.{Mark}
use Rattle.tb_outlets.specs.declared.side.Side.{Side}
use Rattle.tb_outlets.specs.declared.side.Side.TheVariants.{Low, High}
use Rattle.tb_outlets.specs.Balancing.{flow, side_at}
use Rattle.tb_outlets.specs.Cycles.{out}
use Rattle.tb_outlets.specs.Repair.{IsCycle}
use Rattle.tb_outlets.specs.Searching.{distance_at}
use Rattle.tb_outlets.specs.Sides.{axis_of, face_of, number_on, place_on}
use Rattle.tb_outlets.proofs.MeshCycles.{is_cycle as cycle_is, none_flows, one_cycle, outward}
use Rattle.tb_outlets.proofs.Sides.{face_on_side, number_below}
use Rattle.tb_weighted.specs.Flows.{flows_of}
use Rattle.tb_weighted.specs.Limits.{InFlow}
use Rattle.tb_relax.specs.declared.joining.Reach.{Reach}
use Rattle.tb_relax.specs.declared.table.Table.{Table}
use Rattle.tb_relax.specs.Joining.{Within}
use Rattle.tb_relax.specs.Tables.{flux_forms, table_counts}
use Rattle.tb_cycles.specs.Entries.{IsEntry, entering_flow}
use Rattle.tb_cycles.specs.Ways.{LeadOut}
use Rattle.tb_cycles.proofs.Entering.{root_has_none}
use Rattle.tb_cycles.proofs.Putting.{begun_at}
use Rattle.tb_cycle_moves.specs.Courses.{IsReachOf}
use Rattle.tb_cycle_moves.specs.Reaches.{rate_at, slope_at}
use Rattle.tb_cycle_moves.proofs.Nothing.{nothing_crosses, rate_of_none, slope_of_none}
use Rattle.tb_cycle_moves.proofs.Passing.{begins_passing}
use Rattle.tb_cycle_moves.proofs.Surveying.{IsUnderWay, keeps_more, rate_adds, slope_adds}

-- ---- where nothing flows
none_there : (n : Counts) → List ℤ
none_there n = replicate (face_count n) (pos 0)

only_slope : (r o z s : ℤ) → r ≡ o *ℤ s → z ≡ pos 0 → r ≡ z +ℤ o *ℤ s
only_slope r o z s e f = e ∙ rw f (by_reading {atoms = o ∷ s ∷ []} (search reading) (search reading) refl)

only_rate : (r z o c q : ℤ) → r ≡ q → z ≡ pos 0 → c ≡ pos 0 → o *ℤ o ≡ pos 1 → r ≡ (z +ℤ o *ℤ c) +ℤ (o *ℤ o) *ℤ q
only_rate r z o c q e f g h = e ∙ rw (f, g, h) (by_reading {atoms = o ∷ q ∷ []} (search reading) (search reading) refl)

in_squared : (s : Side) → neg_ℤ (out s) *ℤ neg_ℤ (out s) ≡ pos 1
in_squared (Low a) = refl
in_squared (High a) = refl

none_more : (o x z : ℤ) → z ≡ pos 0 → o +ℤ x *ℤ z ≡ o
none_more o x z e = rw e (by_reading {atoms = o ∷ x ∷ []} (search reading) (search reading) refl)

-- what the face gives where a cycle enters
pub record IsEntered (n : Counts) (t : Table) (old : List ℤ) (p : Place) (s : Side) (r : Reach) : Type 0 where
  pub rate : r.pull.rate ≡ rate_at t (axis_of s) (place_on s p)
  pub slope : r.pull.slope ≡ neg_ℤ (out s) *ℤ slope_at t old (axis_of s) (place_on s p)
  pub within : (x : ℤ) → Within r x ↔ InFlow (flow old (number_on n s p) +ℤ x *ℤ neg_ℤ (out s))

module _ (m : Mesh) (t : Table) (same : table_counts t ≡ m.cells) (old : List ℤ) (limits : (g : ℕ) → InFlow (flow old g)) (f c : ℕ) (s : Side) (entry : IsEntry m f c s) (r : Reach) (is : IsEntered m.cells t old (cell_place m.cells c) s r) where
  abbrev n : Counts
  n = m.cells

  abbrev p : Place
  p = cell_place n c

  abbrev at : ℕ
  at = face_of n c s

  full : length (replicate (face_count n) (pos 0)) ≡ face_count n
  full = length-replicate (face_count n) (pos 0)

  below : at < length (replicate (face_count n) (pos 0))
  below = let b = number_below n p s entry.solid.1.0 in omega (arith, b, full)

  pub reach_entered : IsReachOf m t old (entering_flow m c s) r
  reach_entered = record {
    slope = only_slope r.pull.slope (neg_ℤ (out s)) _ (slope_at t old (axis_of s) (place_on s p)) is.slope (slope_of_none (flux_forms t) (flows_of n old) n)
        ∙ sym (slope_adds t (axis_of s) (place_on s p) old (replicate (face_count n) (pos 0)) (neg_ℤ (out s)) n same (face_on_side n p s entry.solid.1.0) below (none_flows (face_count n) at));
    within = λ x.
        let more = keeps_more old (replicate (face_count n) (pos 0)) at (neg_ℤ (out s)) below (none_flows (face_count n) at) (limits at) x in (
          λ in_range. more.1 ((λ g. subst InFlow (sym (none_more (flow old g) x _ (none_flows (face_count n) g))) (limits g)), (is.within x).0 in_range),
          λ all. (is.within x).1 (more.0 all).1,
        );
    rate = λ inside of.
        only_rate r.pull.rate _ (neg_ℤ (out s)) _ _ is.rate (rate_of_none (flux_forms t) n) (nothing_crosses (flux_forms t) n (axis_of s) _ _ _) (in_squared s)
        ∙ sym (rate_adds t (axis_of s) (place_on s p) (replicate (face_count n) (pos 0)) (neg_ℤ (out s)) n same (face_on_side n p s entry.solid.1.0) below (none_flows (face_count n) at));
  }

  pub begins_under_way : (marks : List Mark) (sides : List Side) → LeadOut m marks sides → (cycle : List ℤ) → IsCycle m c s cycle → IsUnderWay m marks sides t old cycle c s r
  begins_under_way marks sides leads cycle is_cycle =
      let ways = outward m (side_at sides) (distance_at marks) leads.outlets leads.distances (distance_at marks c) c entry.solid (omega arith) in
      let other : s ≢ side_at sides c = λ x. root_has_none m (side_at sides) f c s leads.outlets (sym x) entry in
      record {
        part = entering_flow m c s;
        rest = ways.0;
        way = begun_at m marks sides leads f c s entry;
        outward = ways.1;
        ends = one_cycle m (side_at sides) (distance_at marks) c s _ cycle leads.outlets leads.distances
            (cycle_is m (side_at sides) (distance_at marks) c s ways.0 leads.outlets leads.distances entry.solid entry.surface other ways.1) is_cycle;
        passing = begins_passing m (distance_at marks) f c s entry;
        reach = reach_entered;
      }
