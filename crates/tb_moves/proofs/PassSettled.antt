-- Where no move of a session changes a state, none of a pass does.
use Rattle.std.proofs.Common.{◌≡◌, sym, subst, arith}
use Rattle.tb_places.specs.declared.AxisName.{AxisName}
use Rattle.tb_places.specs.declared.AxisName.TheVariants.{X, Y, Z}
use Rattle.tb_places.specs.declared.Place.{Place}
use Rattle.tb_places.specs.Places.{Counts, IsEdge, edge_number, node_number}
use Rattle.tb_places.proofs.Edges.{edge_number_below, edge_place_of_number}
use Rattle.tb_places.proofs.Nodes.{node_number_below}
use Rattle.tb_model.specs.Energy.{Case}
use Rattle.tb_model.specs.Mesh.{Mesh}
use Rattle.tb_weighted.specs.Moves as weighted
use Rattle.tb_weighted.specs.Moves.{IsInnerEdge, IsLoopMove, Move, State}
use Rattle.tb_weighted.specs.Moves.Move.{Loop, Node}
use Rattle.tb_relax.proofs.PassMoves.{IsMoveOn, moves_are}
use Rattle.tb_moves.specs.declared.moves.Move.TheVariants as session
use Rattle.tb_moves.specs.Moves.{IsSettled}

abbrev pub of_node : Place → Move
of_node p = Node p

abbrev pub of_loop : AxisName → Place → Move
of_loop a e = Loop a e

inner_is_edge : (n : Counts) (a : AxisName) (e : Place) → IsInnerEdge n a e → IsEdge n a e
inner_is_edge n X e (x, y, y', z, z') = (x, omega (arith, y'), omega (arith, z'))
inner_is_edge n Y e (x, x', y, z, z') = (omega (arith, x'), y, omega (arith, z'))
inner_is_edge n Z e (x, x', y, y', z) = (omega (arith, x'), omega (arith, y'), z)

module _ (m : Mesh) (inside : Case) (s : State) (settled : IsSettled m inside s) where
  by_move : (move : Move) → IsMoveOn m.cells move → (new : State) → weighted.IsMove m inside move s new → new ≡ s
  by_move (Node p) h new made = settled (session.Node (record { 0 = node_number m.cells p })) (node_number_below m.cells p h) new made
  by_move (Loop a e) h new made =
      let edge = inner_is_edge m.cells a e h in
      let same = edge_place_of_number m.cells a e edge in
      settled (session.Loop (record { 0 = a; 1 = edge_number m.cells a e }))
      (edge_number_below m.cells a e edge, subst (λ (p : Place). IsInnerEdge m.cells a p) (sym same) h) new
      (subst (λ (p : Place). IsLoopMove m inside a p s.flux new.flux) (sym same) made.0, made.1)

  pub settled_pass : weighted.IsSettled m inside s
  settled_pass move c new made = by_move move (moves_are m.cells move c) new made
