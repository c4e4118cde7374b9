-- A state is settled where no move of a pass and no cycle changes it.
use Rattle.std.proofs.Common.{◌≡◌, ◌↔◌, refl, sym, ap, ◌∙◌, subst, ℕ, Bool, true, false, IsTrue, List}
use Rattle.std.proofs.lemmas.Bool.{false≢true}
use lib.IntN.{ℤ}
use Rattle.tb_places.specs.Inverse.{edge_place, node_place}
use Rattle.tb_places.proofs.Nodes.{node_number_of_place, node_place_within}
use Rattle.tb_model.specs.Energy.{Case}
use Rattle.tb_model.specs.Mesh.{Mesh}
use Rattle.tb_weighted.specs.Moves as weighted
use Rattle.tb_weighted.specs.Moves.{IsNodeMove, State}
use Rattle.tb_relax.proofs.PassMoves.{loop_in_pass, node_in_pass}
use Rattle.tb_moves.specs.declared.moves.Move.TheVariants.{Cycle, Loop, Node}
use Rattle.tb_moves.specs.Moves.{CyclesStay, IsSettled}
use Rattle.tb_moves.proofs.PassSettled.{of_loop, of_node, settled_pass}

state : List ℤ → List ℤ → State
state u v = record { field = u; flux = v }

whole : (s new : State) → new.field ≡ s.field → new.flux ≡ s.flux → new ≡ s
whole s new e f = ap (λ (v : List ℤ). record { field = v; flux = new.flux }) e ∙ ap (λ (v : List ℤ). record { field = s.field; flux = v }) f

module _ (m : Mesh) (inside : Case) (s : State) where
  pub settled_whole : weighted.IsSettled m inside s → CyclesStay m inside s.flux → IsSettled m inside s
  settled_whole settled stay (Node n) has new (step, rest) = settled (of_node (node_place m.cells n.0)) (node_in_pass m.cells (node_place m.cells n.0) (node_place_within m.cells n.0 has)) new
      (subst (λ (k : ℕ). IsNodeMove m inside k s.field new.field) (sym (node_number_of_place m.cells n.0)) step, rest)
  settled_whole settled stay (Loop e) has new (step, rest) = settled (of_loop e.0 (edge_place m.cells e.0 e.1)) (loop_in_pass m.cells e.0 (edge_place m.cells e.0 e.1) has.1) new (step, rest)
  settled_whole settled stay (Cycle f) has new (step, rest) = whole s new rest (stay f.0 has.0 has.1 new.flux step)

  settled_cycles : IsSettled m inside s → CyclesStay m inside s.flux
  settled_cycles settled f within has new step = ap (λ (u : State). u.flux) (settled (Cycle (record { 0 = f })) (within, has) (record { field = s.field; flux = new }) (step, refl))

  -- as two tests tell it, of equal lists
  module _ (field flux : List ℤ) (e : field ≡ s.field) (f : flux ≡ s.flux) (first : Bool) (pass : IsTrue first ↔ weighted.IsSettled m inside (record { field = field; flux = flux })) where
    same : record { field = field; flux = flux } ≡ s
    same = whole s (record { field = field; flux = flux }) e f

    pub neither_settles : first ≡ false → IsTrue false ↔ IsSettled m inside s
    neither_settles h = (λ t. absurd (false≢true t), λ settled. absurd (false≢true (sym h ∙ pass.1 (subst (λ (u : State). weighted.IsSettled m inside u) (sym same) (settled_pass m inside s settled)))))

    pub both_settle : (flux' : List ℤ) (second : Bool) → flux' ≡ s.flux → (IsTrue second ↔ CyclesStay m inside flux') → first ≡ true → IsTrue second ↔ IsSettled m inside s
    both_settle flux' second g cycles h = (
      λ t. settled_whole (subst (λ (u : State). weighted.IsSettled m inside u) same (pass.0 h)) (subst (λ (v : List ℤ). CyclesStay m inside v) g (cycles.0 t)),
      λ settled. cycles.1 (subst (λ (v : List ℤ). CyclesStay m inside v) (sym g) (settled_cycles settled)),
    )
