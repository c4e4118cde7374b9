-- Moves that leave a field or a flux as it is, and moves that don't.
use Rattle.std.specs.Prelude.{◌≢◌, List, ℤ, pos}
use Rattle.tb_places.specs.declared.AxisName.{AxisName}
use Rattle.tb_places.specs.declared.Place.{Place}
use Rattle.tb_places.specs.Places.{IsNode, node_number}
use Rattle.tb_weighted.specs.FlowMoves.{IsFlowMove, IsFlowMoveBy, loop_where}
use Rattle.tb_weighted.specs.Flows.{Flows3}
use Rattle.tb_weighted.specs.Forms.{IsFormMove}
use Rattle.tb_weighted.specs.Moves.{IsInnerEdge}
use Rattle.tb_relax.specs.declared.table.Table.{Table}
use Rattle.tb_relax.specs.Rounds.{counts_at}
use Rattle.tb_relax.specs.Tables.{field_forms, flux_forms, table_counts}

-- the move of the node at a place leaves the values
abbrev pub NodeStays : Table → List ℤ → Place → Type 0
NodeStays t values p = IsFormMove (field_forms t) (node_number (table_counts t) p) values values

-- it makes other values of them
pub record NodeMoves (t : Table) (values : List ℤ) (p : Place) : Type 0 where
  pub new : List ℤ
  pub move : IsFormMove (field_forms t) (node_number (table_counts t) p) values new
  pub differs : new ≢ values

pub record SomeNodeMoves (t : Table) (values : List ℤ) : Type 0 where
  pub place : Place
  pub node : IsNode (table_counts t) place
  pub moves : NodeMoves t values place

-- none of a change of a flux is added, or the flows change
abbrev pub FlowStays : Table → List ℤ → Flows3 → Type 0
FlowStays t flows change = IsFlowMoveBy (flux_forms t) change (pos 0) flows flows

pub record FlowMoves (t : Table) (flows : List ℤ) (change : Flows3) : Type 0 where
  pub new : List ℤ
  pub move : IsFlowMove (flux_forms t) change flows new
  pub differs : new ≢ flows

abbrev pub loop_on : Table → AxisName → Place → Flows3
loop_on t axis e = loop_where (counts_at t) axis e

pub record SomeLoopMoves (t : Table) (flows : List ℤ) : Type 0 where
  pub axis : AxisName
  pub place : Place
  pub edge : IsInnerEdge (table_counts t) axis place
  pub moves : FlowMoves t flows (loop_on t axis place)
