-- What a list of moves leaves.
use Rattle.std.proofs.Common.{◌≡◌, ◌≢◌, ◌↔◌, sym, ap, inl, inr, subst, arith, ℕ, suc, Bool, IsTrue, List, [], ◌∷◌}
use Rattle.std.proofs.lemmas.List.Elements.{All-cons, All-nil}
use Rattle.std.specs.List.{All}
use lib.IntN.{ℤ}
use lib.Signed.{◌≤ℤ◌}
use Rattle.tb_math.proofs.SumInstances.{int_refl, int_trans}
use Rattle.tb_places.specs.Inverse.{edge_place, node_place}
use Rattle.tb_places.proofs.Nodes.{node_number_of_place, node_place_within}
use Rattle.tb_model.specs.Energy.{Case}
use Rattle.tb_model.specs.Mesh.{Mesh}
use Rattle.tb_model.specs.Values.{field_of, flux_of}
use Rattle.tb_weighted.specs.Moves as weighted
use Rattle.tb_places.specs.Places.{face_count}
use Rattle.tb_weighted.specs.Moves.{IsNodeMove, State, counting, pass_moves}
use Rattle.tb_weighted.specs.Sequences.{AreMade}
use Rattle.tb_weighted.specs.Weighted.{weighted_field, weighted_flux}
use Rattle.tb_weighted.proofs.SequenceLaws.{alone}
use Rattle.tb_relax.specs.Balance.{IsFilled}
use Rattle.tb_costs.specs.Admissible as costs
use Rattle.tb_costs.specs.Admissible.{IsAdmissible}
use Rattle.tb_costs.proofs.Moves.{by_moves, pass_has}
use Rattle.tb_cycle_moves.specs.Turns.{IsCycleTurn}
use Rattle.tb_cycle_moves.proofs.Keeping.{lowers}
use Rattle.tb_moves.specs.declared.moves.Move.{Move}
use Rattle.tb_moves.specs.declared.moves.Move.TheVariants.{Cycle, Loop, Node}
use Rattle.tb_moves.specs.Leaving.{RaisesNothing}
use Rattle.tb_moves.specs.Moves.{AreMoves, HasMove, IsMove, IsPlainPass}
use Rattle.tb_moves.proofs.Kept.{cycle_admissible, state}
use Rattle.tb_moves.proofs.PassSettled.{of_loop, of_node}

module _ (m : Mesh) (inside : Case) (filled : IsFilled m) where
  passing : (move : weighted.Move) (old new : State) (told : Bool) → costs.HasMove m.cells move → weighted.IsMove m inside move old new → (IsTrue told ↔ (new ≢ old)) → IsAdmissible m inside old → RaisesNothing m inside old new
  passing move old new told has made here h =
      let kept = by_moves m inside filled (move ∷ []) old new told (All-cons (costs.HasMove m.cells) move [] has (All-nil (costs.HasMove m.cells))) (alone State weighted.Move (weighted.IsMove m inside) move old new told made here) h in
      record { admissible = kept.admissible; field = kept.field; flux = kept.flux }

  pub move_leaves : (move : Move) (old new : State) (told : Bool) → HasMove m move → IsMove m inside move old new → (IsTrue told ↔ (new ≢ old)) → IsAdmissible m inside old → RaisesNothing m inside old new
  move_leaves (Node n) old new told has (step, rest) here h = passing (of_node (node_place m.cells n.0)) old new told (node_place_within m.cells n.0 has)
      (subst (λ (k : ℕ). IsNodeMove m inside k old.field new.field) (sym (node_number_of_place m.cells n.0)) step, rest) here h
  move_leaves (Loop e) old new told has made here h = passing (of_loop e.0 (edge_place m.cells e.0 e.1)) old new told has.1 made here h
  move_leaves (Cycle f) old new told has (step, rest) here h = record {
    admissible = subst (λ (v : List ℤ). IsAdmissible m inside (state v new.flux)) (sym rest) (cycle_admissible m inside old.field f.0 old.flux new.flux step h);
    field = subst (λ (v : List ℤ). weighted_field m inside (field_of m.cells v) ≤ℤ weighted_field m inside (field_of m.cells old.field)) (sym rest) (int_refl (weighted_field m inside (field_of m.cells old.field)));
    flux = lowers m inside f.0 old.flux new.flux step h.flux;
  }

  nothing : (old new : State) → new ≡ old → IsAdmissible m inside old → RaisesNothing m inside old new
  nothing old new same h = subst (λ (s : State). RaisesNothing m inside old s) (sym same)
      (record { admissible = h; field = int_refl (weighted_field m inside (field_of m.cells old.field)); flux = int_refl (weighted_flux m inside (flux_of m.cells old.flux)) })

  pub list_leaves : (moves : List Move) (old new : State) (told : Bool) → All (HasMove m) moves → AreMoves m inside moves old new told → IsAdmissible m inside old → RaisesNothing m inside old new
  list_leaves [] old new told all (same, none) h = nothing old new same h
  list_leaves (move ∷ moves) old new told all made h =
      let first = move_leaves move old made.mid made.told_here (all 0 move (omega arith)) made.step made.here h in
      let after = list_leaves moves made.mid new made.told_after (λ i d l. all (suc i) d (omega (arith, l))) made.after first.admissible in
      record { admissible = after.admissible; field = int_trans _ _ _ after.field first.field; flux = int_trans _ _ _ after.flux first.flux }

  -- the turns of cycles leave the field
  turn_leaves : (field : List ℤ) (f : ℕ) (old new : List ℤ) → IsCycleTurn m inside f old new → IsAdmissible m inside (state field old) → RaisesNothing m inside (state field old) (state field new)
  turn_leaves field f old new (inl move) h = record {
    admissible = cycle_admissible m inside field f old new move h;
    field = int_refl (weighted_field m inside (field_of m.cells field));
    flux = lowers m inside f old new move h.flux;
  }
  turn_leaves field f old new (inr (none, same)) h = nothing (state field old) (state field new) (ap (state field) same) h

  turns_leave : (field : List ℤ) (fs : List ℕ) (old new : List ℤ) (told : Bool) → AreMade (List ℤ) ℕ (IsCycleTurn m inside) fs old new told → IsAdmissible m inside (state field old) → RaisesNothing m inside (state field old) (state field new)
  turns_leave field [] old new told (same, none) h = nothing (state field old) (state field new) (ap (state field) same) h
  turns_leave field (f ∷ fs) old new told made h =
      let first = turn_leaves field f old made.mid made.step h in
      let after = turns_leave field fs made.mid new made.told_after made.after first.admissible in
      record { admissible = after.admissible; field = int_trans _ _ _ after.field first.field; flux = int_trans _ _ _ after.flux first.flux }

  pub pass_leaves : (old new : State) (told : Bool) → IsPlainPass m inside old new told → IsAdmissible m inside old → RaisesNothing m inside old new
  pass_leaves old new told pass h =
      let first = by_moves m inside filled (pass_moves m.cells) old pass.mid pass.told_before (pass_has m.cells) pass.before h in
      let after = turns_leave pass.mid.field (counting 0 (face_count m.cells)) pass.mid.flux new.flux pass.told_after pass.cycles first.admissible in
      subst (λ (field : List ℤ). RaisesNothing m inside old (state field new.flux)) (sym pass.field)
      (record { admissible = after.admissible; field = int_trans _ _ _ after.field first.field; flux = int_trans _ _ _ after.flux first.flux })
