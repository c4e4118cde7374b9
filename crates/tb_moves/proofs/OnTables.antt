-- What is done on the table of a mesh is done on the mesh.
use Rattle.std.proofs.Common.{◌≡◌, sym, ap, ◌∙◌, subst, Bool, List, ℕ}
use lib.IntN.{ℤ}
use Rattle.tb_places.specs.declared.AxisName.{AxisName}
use Rattle.tb_places.specs.declared.Place.{Place}
use Rattle.tb_places.specs.Inverse.{node_place}
use Rattle.tb_places.specs.Places.{Counts, node_number}
use Rattle.tb_places.proofs.Nodes.{node_number_of_place}
use Rattle.tb_model.specs.Energy.{Case}
use Rattle.tb_model.specs.Mesh.{Mesh}
use Rattle.tb_weighted.specs.FlowMoves.{IsFlowMove, loop_where}
use Rattle.tb_weighted.specs.Forms.{IsFormMove}
use Rattle.tb_weighted.specs.Limits.{IsField, IsFlux}
use Rattle.tb_weighted.specs.Moves.{IsLoopMove, IsNodeMove, Move, loop_moves, nodes}
use Rattle.tb_weighted.specs.Moves.Move.{Loop, Node}
use Rattle.tb_weighted.specs.Sequences.{AreMade}
use Rattle.tb_weighted.proofs.FlowMoves.{loop_move}
use Rattle.tb_weighted.proofs.SequenceLaws.{lifted}
use Rattle.tb_relax.specs.declared.table.Table.{Table}
use Rattle.tb_relax.specs.Edges as edges
use Rattle.tb_relax.specs.Passes.{IsTableOf}
use Rattle.tb_relax.specs.Rounds.{counts_at}
use Rattle.tb_relax.specs.Tables.{AreNodeMoves, field_forms, flux_forms, table_counts}
use Rattle.tb_relax.proofs.Passes.{on_field}
use Rattle.tb_moves.specs.FluxPasses.{IsFluxMove}

-- moves of one kind are moves of another
pub implied : (S M : Type 0) (move other : M → S → S → Type 0) → ((m : M) (u v : S) → move m u v → other m u v)
    → (ms : List M) (old new : S) (t : Bool) → AreMade S M move ms old new t → AreMade S M other ms old new t
implied S M move other h ms old new t r = lifted S S M move other (λ s. s) (λ u v e. e) h ms old new t r

module _ (m : Mesh) (inside : Case) (t : Table) (counts : table_counts t ≡ m.cells) (of : IsTableOf m inside t) where
  pub field_there : (vs : List ℤ) → IsField m.cells vs → IsField (table_counts t) vs
  field_there vs f = subst (λ (n : Counts). IsField n vs) (sym counts) f

  pub field_here : (vs : List ℤ) → IsField (table_counts t) vs → IsField m.cells vs
  field_here vs f = subst (λ (n : Counts). IsField n vs) counts f

  pub flux_there : (vs : List ℤ) → IsFlux m.cells vs → IsFlux (table_counts t) vs
  flux_there vs f = subst (λ (n : Counts). IsFlux n vs) (sym counts) f

  pub flux_here : (vs : List ℤ) → IsFlux (table_counts t) vs → IsFlux m.cells vs
  flux_here vs f = subst (λ (n : Counts). IsFlux n vs) counts f

  node_at : (p : Place) (old new : List ℤ) → IsFormMove (field_forms t) (node_number (table_counts t) p) old new → IsNodeMove m inside (node_number m.cells p) old new
  node_at p old new h = (on_field m inside t of old (Node p) old new h).0

  pub node_moved : (node : ℕ) (p : Place) (old new : List ℤ) → p ≡ node_place (table_counts t) node → IsFormMove (field_forms t) (node_number (table_counts t) p) old new → IsNodeMove m inside node old new
  node_moved node p old new e h =
      subst (λ (n : ℕ). IsNodeMove m inside n old new) (ap (λ (q : Place). node_number m.cells q) e ∙ ap (λ (n : Counts). node_number m.cells (node_place n node)) counts ∙ node_number_of_place m.cells node)
      (node_at p old new h)

  pub nodes_moved : (old new : List ℤ) (told : Bool) → AreNodeMoves t (nodes (table_counts t)) old new told
      → AreMade (List ℤ) Place (λ p. IsNodeMove m inside (node_number m.cells p)) (nodes m.cells) old new told
  nodes_moved old new told r =
      subst (λ (n : Counts). AreMade (List ℤ) Place (λ p. IsNodeMove m inside (node_number m.cells p)) (nodes n) old new told) counts
      (implied (List ℤ) Place (λ p. IsFormMove (field_forms t) (node_number (table_counts t) p)) (λ p. IsNodeMove m inside (node_number m.cells p)) node_at (nodes (table_counts t)) old new told r)

  pub loop_moved : (axis : AxisName) (e : Place) (old new : List ℤ) → IsFlowMove (flux_forms t) (loop_where (counts_at t) axis e) old new → IsLoopMove m inside axis e old new
  loop_moved axis e old new h = loop_move m inside (flux_forms t) (counts_at t) axis e old new of.flux of.counts h

  flux_moved : (move : Move) (old new : List ℤ) → edges.IsFluxMove t move old new → IsFluxMove m inside move old new
  flux_moved (Node p) old new h = absurd h
  flux_moved (Loop axis e) old new h = loop_moved axis e old new h

  pub loops_moved : (old new : List ℤ) (told : Bool) → AreMade (List ℤ) Move (edges.IsFluxMove t) (loop_moves (table_counts t)) old new told
      → AreMade (List ℤ) Move (IsFluxMove m inside) (loop_moves m.cells) old new told
  loops_moved old new told r =
      subst (λ (n : Counts). AreMade (List ℤ) Move (IsFluxMove m inside) (loop_moves n) old new told) counts
      (implied (List ℤ) Move (edges.IsFluxMove t) (IsFluxMove m inside) flux_moved (loop_moves (table_counts t)) old new told r)
