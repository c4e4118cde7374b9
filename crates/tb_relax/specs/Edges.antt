-- The moves of loops on a table.
use Rattle.std.specs.Prelude.{Bool, List, ℤ}
use Rattle.tb_places.specs.declared.AxisName.{AxisName}
use Rattle.tb_places.specs.declared.AxisName.TheVariants.{X, Y, Z}
use Rattle.tb_places.specs.declared.Place.{Place}
use Rattle.tb_places.specs.Places.{place_at}
use Rattle.tb_weighted.specs.FlowMoves.{IsFlowMove, loop_where}
use Rattle.tb_weighted.specs.Moves.{Move}
use Rattle.tb_weighted.specs.Moves.Move.{Node, Loop}
use Rattle.tb_weighted.specs.Sequences.{AreMade}
use Rattle.tb_relax.specs.declared.table.Table.{Table}
use Rattle.tb_relax.specs.Rounds.{counts_at}
use Rattle.tb_relax.specs.Tables.{flux_forms}

-- the first edge along an axis that is inside the hull
abbrev pub first_edge : AxisName → Place
first_edge X = place_at 0 1 1
first_edge Y = place_at 1 0 1
first_edge Z = place_at 1 1 0

-- the moves of the loops of these edges along an axis, one after another
abbrev pub AreLoopMoves : Table → AxisName → List Place → List ℤ → List ℤ → Bool → Type 0
AreLoopMoves t axis edges old new told = AreMade (List ℤ) Place (λ e. IsFlowMove (flux_forms t) (loop_where (counts_at t) axis e)) edges old new told

-- a move on a flux: that of a loop; there is none of a node
abbrev pub IsFluxMove : Table → Move → List ℤ → List ℤ → Type 0
IsFluxMove t (Node p) old new = ⊥
IsFluxMove t (Loop axis e) old new = IsFlowMove (flux_forms t) (loop_where (counts_at t) axis e) old new
