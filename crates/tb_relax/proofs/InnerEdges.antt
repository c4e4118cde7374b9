-- The faces round an edge, and what goes round it.
use Rattle.std.proofs.Common.{◌≡◌, ◌||◌, refl, sym, ap, subst, arith, ℕ, ◌-◌, ◌<◌, ◌≤◌, Bool, true, false, List, ◌++◌, map}
use lib.IntN.{ℤ}
use Rattle.tb_places.specs.declared.AxisName.{AxisName}
use Rattle.tb_places.specs.declared.AxisName.TheVariants.{X, Y, Z}
use Rattle.tb_places.specs.declared.Place.{Place}
use Rattle.tb_places.specs.Places.{Counts, place_at}
use Rattle.tb_weighted.specs.Flows.{FlowForms, Flows3}
use Rattle.tb_weighted.specs.FlowMoves.{IsFlowMove, counted, loop_where}
use Rattle.tb_weighted.specs.Moves.{IsInnerEdge, Move, counting, inner_edges, loop_moves, places, round_edge}
use Rattle.tb_weighted.specs.Moves.Move.{Loop}
use Rattle.tb_weighted.specs.Sequences.{AreMade}
use Rattle.tb_weighted.proofs.SequenceLaws.{renamed, then}
use Rattle.std.proofs.lemmas.Bool.{true≢false}
use Rattle.tb_relax.specs.declared.site.Round.{Round}
use Rattle.tb_relax.specs.declared.table.Table.{Table}
use Rattle.tb_relax.specs.Edges.{AreLoopMoves, IsFluxMove, first_edge}
use Rattle.tb_relax.specs.Tables.{flux_forms, table_counts}
use Rattle.tb_relax.specs.Rounds.{counts_at, round_change, round_flows}

-- a move round the faces of an edge is one of its loop
pub as_loop : (t : Table) (f : FlowForms) (r : Round) (axis : AxisName) (e : Place) (old new : List ℤ) → ((a : AxisName) (i j k : ℕ) → round_flows r a i j k ≡ round_edge axis e a i j k)
    → IsFlowMove f (round_change t r) old new → IsFlowMove f (loop_where (counts_at t) axis e) old new
as_loop t f r axis e old new h m = subst (λ (u : Flows3). IsFlowMove f u old new) path m
  where
    path : ◌≡◌ {A = Flows3} (round_change t r) (loop_where (counts_at t) axis e)
    path = λ s a i j k. counted (counts_at t a i j k) (h a i j k s)

-- the edges inside the hull, by their first one
pub inner_edge : (n : Counts) (axis : AxisName) (i j k : ℕ) → (first_edge axis).i ≤ i → i < n X → (first_edge axis).j ≤ j → j < n Y → (first_edge axis).k ≤ k → k < n Z → IsInnerEdge n axis (place_at i j k)
inner_edge n X i j k a b c d e f = (b, omega arith, d, omega arith, f)
inner_edge n Y i j k a b c d e f = (omega arith, b, d, omega arith, f)
inner_edge n Z i j k a b c d e f = (omega arith, b, omega arith, d, f)

all_of : (n : ℕ) → n - 0 ≡ n
all_of n = omega arith

pub edges_from : (n : Counts) (axis : AxisName) → places (counting (first_edge axis).i (n X - (first_edge axis).i)) (counting (first_edge axis).j (n Y - (first_edge axis).j)) (counting (first_edge axis).k (n Z - (first_edge axis).k)) ≡ inner_edges n axis
edges_from n X = ap (λ (z : ℕ). places (counting 0 z) (counting 1 (n Y - 1)) (counting 1 (n Z - 1))) (all_of (n X))
edges_from n Y = ap (λ (z : ℕ). places (counting 1 (n X - 1)) (counting 0 z) (counting 1 (n Z - 1))) (all_of (n Y))
edges_from n Z = ap (λ (z : ℕ). places (counting 1 (n X - 1)) (counting 1 (n Y - 1)) (counting 0 z)) (all_of (n Z))

-- no axis is shorter than that
pub first_edge_near : (axis : AxisName) → ((first_edge axis).i ≤ 1) × ((first_edge axis).j ≤ 1) × ((first_edge axis).k ≤ 1)
first_edge_near X = (omega arith, omega arith, omega arith)
first_edge_near Y = (omega arith, omega arith, omega arith)
first_edge_near Z = (omega arith, omega arith, omega arith)

-- the loops along x, those along y and those along z
pub three_axes : (t : Table) (old first second new : List ℤ) (x y z told : Bool) → AreLoopMoves t X (inner_edges (table_counts t) X) old first x → AreLoopMoves t Y (inner_edges (table_counts t) Y) first second y
    → AreLoopMoves t Z (inner_edges (table_counts t) Z) second new z → (x || (y || z)) ≡ told → AreMade (List ℤ) Move (IsFluxMove t) (loop_moves (table_counts t)) old new told
three_axes t old first second new x y z told a b c e = subst (λ (d : Bool). AreMade (List ℤ) Move (IsFluxMove t) (loop_moves (table_counts t)) old new d) e
    (then (List ℤ) Move (IsFluxMove t) (map (Loop X) (inner_edges (table_counts t) X)) (map (Loop Y) (inner_edges (table_counts t) Y) ++ map (Loop Z) (inner_edges (table_counts t) Z)) old first new x (y || z) (along_axis X old first x a)
    (then (List ℤ) Move (IsFluxMove t) (map (Loop Y) (inner_edges (table_counts t) Y)) (map (Loop Z) (inner_edges (table_counts t) Z)) first second new y z (along_axis Y first second y b) (along_axis Z second new z c)))
  where
    along_axis : (axis : AxisName) (us vs : List ℤ) (d : Bool) → AreLoopMoves t axis (inner_edges (table_counts t) axis) us vs d → AreMade (List ℤ) Move (IsFluxMove t) (map (Loop axis) (inner_edges (table_counts t) axis)) us vs d
    along_axis axis us vs d m = renamed (List ℤ) Place Move (λ (p : Place). IsFlowMove (flux_forms t) (loop_where (counts_at t) axis p)) (IsFluxMove t) (Loop axis) (λ p k l h. h) (inner_edges (table_counts t) axis) us vs d m

pub told_first : (x y z : Bool) → x ≡ true → (x || (y || z)) ≡ x
told_first true y z e = refl
told_first false y z e = absurd (true≢false (sym e))

pub told_second : (x y z : Bool) → x ≡ false → y ≡ true → (x || (y || z)) ≡ y
told_second true y z e f = absurd (true≢false e)
told_second false true z e f = refl
told_second false false z e f = absurd (true≢false (sym f))

pub told_third : (x y z : Bool) → x ≡ false → y ≡ false → (x || (y || z)) ≡ z
told_third true y z e f = absurd (true≢false e)
told_third false true z e f = absurd (true≢false f)
told_third false false z e f = refl
