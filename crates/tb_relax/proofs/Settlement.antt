-- A state is settled on a mesh exactly where no move on its table changes it.
use Rattle.std.proofs.Common.{◌≡◌, sym, ap, ◌∙◌, subst, arith, ◌<◌, List, length}
use lib.IntN.{ℤ, pos}
use Rattle.tb_places.specs.declared.AxisName.{AxisName}
use Rattle.tb_places.specs.declared.Place.{Place}
use Rattle.tb_places.specs.Places.{Counts, IsNode, node_number}
use Rattle.tb_places.proofs.Nodes.{node_number_below}
use Rattle.tb_model.specs.Energy.{Case}
use Rattle.tb_model.specs.Mesh.{Mesh}
use Rattle.tb_weighted.specs.Limits.{IsField, IsFlux}
use Rattle.tb_weighted.specs.Moves.{IsInnerEdge, IsMove, IsSettled, Move, State}
use Rattle.tb_weighted.specs.Moves.Move.{Loop, Node}
use Rattle.tb_weighted.proofs.FlowMoves.{loop_move}
use Rattle.tb_relax.specs.declared.table.Table.{Table}
use Rattle.tb_relax.specs.Passes.{IsTableOf}
use Rattle.tb_relax.specs.Rounds.{counts_at}
use Rattle.tb_relax.specs.Settled.{FlowStays, NodeStays, SomeLoopMoves, SomeNodeMoves, loop_on}
use Rattle.tb_relax.specs.Tables.{flux_forms, table_counts}
use Rattle.tb_relax.proofs.Passes.{on_field, on_flux, same_counts, state}
use Rattle.tb_relax.proofs.PassMoves.{IsMoveOn, loop_in_pass, moves_are, node_in_pass}
use Rattle.tb_relax.proofs.Staying.{loop_alone, node_alone}

module _ (m : Mesh) (inside : Case) (t : Table) (of : IsTableOf m inside t) (values flows : List ℤ) where
  counts : table_counts t ≡ m.cells
  counts = same_counts m inside t of

  pub settled_where : IsField (table_counts t) values → IsFlux (table_counts t) flows → ((p : Place) → IsNode (table_counts t) p → NodeStays t values p)
      → ((axis : AxisName) (e : Place) → IsInnerEdge (table_counts t) axis e → FlowStays t flows (loop_on t axis e)) → IsSettled m inside (state values flows)
  settled_where field flux nodes loops move c new made = by_move move (moves_are m.cells move c) new made
    where
      by_move : (move : Move) → IsMoveOn m.cells move → (new : State) → IsMove m inside move (state values flows) new → new ≡ state values flows
      by_move (Node p) h new (step, rest) =
          let within : node_number m.cells p < length values = (let f = subst (λ (n : Counts). IsField n values) counts field in let b = node_number_below m.cells p h in omega (arith, f.nodes, b)) in
          let stays = on_field m inside t of flows (Node p) values values (nodes p (subst (λ (n : Counts). IsNode n p) (sym counts) h)) in
          let same = node_alone m inside (node_number m.cells p) values new.field within stays.0 step in
          ap (λ (l : List ℤ). state l new.flux) same ∙ ap (λ (l : List ℤ). state values l) rest
      by_move (Loop axis e) h new (step, rest) =
          let stays = loops axis e (subst (λ (n : Counts). IsInnerEdge n axis e) (sym counts) h) in
          let same = loop_alone m inside axis e flows new.flux (subst (λ (n : Counts). IsFlux n flows) counts flux) (loop_move m inside (flux_forms t) (counts_at t) axis e flows flows of.flux of.counts (record { multiple = pos 0; move = stays })) step in
          ap (λ (l : List ℤ). state l new.flux) rest ∙ ap (λ (l : List ℤ). state values l) same

  pub node_unsettles : SomeNodeMoves t values → IsSettled m inside (state values flows) → ⊥
  node_unsettles x s = x.moves.differs (ap (λ (u : State). u.field)
      (s (Node x.place) (node_in_pass m.cells x.place (subst (λ (n : Counts). IsNode n x.place) counts x.node)) (state x.moves.new flows) (on_field m inside t of flows (Node x.place) values x.moves.new x.moves.move)))

  pub loop_unsettles : SomeLoopMoves t flows → IsSettled m inside (state values flows) → ⊥
  loop_unsettles x s = x.moves.differs (ap (λ (u : State). u.flux)
      (s (Loop x.axis x.place) (loop_in_pass m.cells x.axis x.place (subst (λ (n : Counts). IsInnerEdge n x.axis x.place) counts x.edge)) (state values x.moves.new) (on_flux m inside t of values (Loop x.axis x.place) flows x.moves.new x.moves.move)))
