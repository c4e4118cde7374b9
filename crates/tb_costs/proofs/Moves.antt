-- What moves leave: an admissible state stays so, and neither weighted energy rises.
use Rattle.std.proofs.Common.{◌≡◌, sym, ap, ◌∙◌, subst, arith, ℕ, zero, suc, List, [], ◌∷◌, Bool, get_or}
use Rattle.std.proofs.lemmas.Int.{ints}
use Rattle.std.proofs.lemmas.List.{length-set}
use Rattle.std.proofs.lemmas.List.Elements.{All-set, Contains-get_or}
use Rattle.std.specs.List.{All}
use lib.IntN.{ℤ, pos}
use lib.Signed.{◌≤ℤ◌}
use Rattle.tb_math.proofs.SumInstances.{int_refl, int_trans}
use Rattle.tb_places.specs.declared.AxisName.{AxisName}
use Rattle.tb_places.specs.declared.Place.{Place}
use Rattle.tb_places.specs.Places.{Counts, node_number}
use Rattle.tb_model.specs.Energy.{Case, IsBalanced}
use Rattle.tb_model.specs.Mesh.{Mesh}
use Rattle.tb_model.specs.Values.{field_of, flux_of}
use Rattle.tb_weighted.specs.Flows.{flow_energy}
use Rattle.tb_weighted.specs.Limits.{InField, IsField, IsFlux}
use Rattle.tb_weighted.specs.Moves.{AreMoves, IsLoopMove, IsMove, IsNodeMove, KeepsLimits, Move, State, loop_of, pass_moves, whole_flux, with_multiple}
use Rattle.tb_weighted.specs.Moves.Move.{Loop, Node}
use Rattle.tb_weighted.specs.OnMesh.{mesh_flow_forms}
use Rattle.tb_weighted.specs.Weighted.{weighted_field, weighted_flux}
use Rattle.tb_weighted.proofs.FlowBridge.{flow_energy_is}
use Rattle.tb_weighted.proofs.FlowMoves.{flux_kept, least_same}
use Rattle.tb_weighted.proofs.Lowering.{loop_lowers, node_lowers}
use Rattle.tb_relax.specs.Balance.{IsFilled}
use Rattle.tb_relax.proofs.Balance.{keeps_balance}
use Rattle.tb_relax.proofs.PassMoves.{IsMoveOn, moves_are}
use Rattle.tb_costs.specs.Admissible.{HasMove, IsAdmissible}

in_field : (values : List ℤ) → All InField values → (n : ℕ) → InField (get_or values n (pos 0))
in_field [] h n = (omega (arith, ints), omega (arith, ints))
in_field (v ∷ vs) h zero = h 0 (pos 0) (omega arith)
in_field (v ∷ vs) h (suc n) = in_field vs (λ k d l. h (suc k) d (omega (arith, l))) n

-- what a move or several leave
pub record Keeps (m : Mesh) (inside : Case) (old new : State) : Type 0 where
  pub admissible : IsAdmissible m inside new
  pub field : weighted_field m inside (field_of m.cells new.field) ≤ℤ weighted_field m inside (field_of m.cells old.field)
  pub flux : weighted_flux m inside (flux_of m.cells new.flux) ≤ℤ weighted_flux m inside (flux_of m.cells old.flux)

module _ (m : Mesh) (inside : Case) where
  node_kept : (node : ℕ) (old new : List ℤ) → IsNodeMove m inside node old new → IsField m.cells old → IsField m.cells new
  node_kept node old new move h = subst (IsField m.cells) (sym move.rest) (record {
    nodes = length-set old node move.value ∙ h.nodes;
    within = All-set InField old node move.value (move.least.above, move.least.below) h.within;
  })

  loop_kept : (axis : AxisName) (e : Place) (old new : List ℤ) → IsLoopMove m inside axis e old new → IsFlux m.cells old → IsFlux m.cells new
  loop_kept axis e old new move = flux_kept (mesh_flow_forms m inside) (loop_of m axis e) move.multiple old new (record {
    least = least_same (λ t. weighted_flux m inside (whole_flux (with_multiple m.cells old (loop_of m axis e) t))) (λ t. flow_energy (mesh_flow_forms m inside) (with_multiple m.cells old (loop_of m axis e) t))
        (λ t. KeepsLimits m.cells (with_multiple m.cells old (loop_of m axis e) t)) (λ t. KeepsLimits m.cells (with_multiple m.cells old (loop_of m axis e) t))
        (λ t. sym (flow_energy_is m inside (with_multiple m.cells old (loop_of m axis e) t))) (λ t h. h) (λ t h. h) (pos 0) move.multiple move.least;
    faces = move.faces;
    added = move.added;
  })

  -- the same field, or the same flux
  same_field : (old new : State) → new.field ≡ old.field → weighted_field m inside (field_of m.cells new.field) ≤ℤ weighted_field m inside (field_of m.cells old.field)
  same_field old new e = subst (λ (v : List ℤ). weighted_field m inside (field_of m.cells v) ≤ℤ weighted_field m inside (field_of m.cells old.field)) (sym e) (int_refl (weighted_field m inside (field_of m.cells old.field)))

  same_flux : (old new : State) → new.flux ≡ old.flux → weighted_flux m inside (flux_of m.cells new.flux) ≤ℤ weighted_flux m inside (flux_of m.cells old.flux)
  same_flux old new e = subst (λ (v : List ℤ). weighted_flux m inside (flux_of m.cells v) ≤ℤ weighted_flux m inside (flux_of m.cells old.flux)) (sym e) (int_refl (weighted_flux m inside (flux_of m.cells old.flux)))

  module _ (filled : IsFilled m) where
    by_move : (move : Move) (old new : State) → HasMove m.cells move → IsMove m inside move old new → IsAdmissible m inside old → Keeps m inside old new
    by_move (Node p) old new has (move, same) h = record {
      admissible = record {
        field = node_kept (node_number m.cells p) old.field new.field move h.field;
        flux = subst (IsFlux m.cells) (sym same) h.flux;
        balanced = subst (λ (v : List ℤ). IsBalanced m (flux_of m.cells v)) (sym same) h.balanced;
        energy = int_trans _ _ _ (same_flux old new same) h.energy;
      };
      field = node_lowers m inside (node_number m.cells p) old.field new.field move (in_field old.field h.field.within (node_number m.cells p));
      flux = same_flux old new same;
    }
    by_move (Loop axis e) old new has (move, same) h = record {
      admissible = record {
        field = subst (IsField m.cells) (sym same) h.field;
        flux = loop_kept axis e old.flux new.flux move h.flux;
        balanced = keeps_balance m inside axis e old.flux new.flux move has filled h.balanced;
        energy = int_trans _ _ _ (loop_lowers m inside axis e old.flux new.flux move h.flux) h.energy;
      };
      field = same_field old new same;
      flux = loop_lowers m inside axis e old.flux new.flux move h.flux;
    }

    -- one after another
    then : (old mid new : State) → Keeps m inside old mid → Keeps m inside mid new → Keeps m inside old new
    then old mid new h k = record { admissible = k.admissible; field = int_trans _ _ _ k.field h.field; flux = int_trans _ _ _ k.flux h.flux }

    none_made : (old new : State) → new ≡ old → IsAdmissible m inside old → Keeps m inside old new
    none_made old new same h = record {
      admissible = subst (IsAdmissible m inside) (sym same) h;
      field = same_field old new (ap (λ (s : State). s.field) same);
      flux = same_flux old new (ap (λ (s : State). s.flux) same);
    }

    pub by_moves : (moves : List Move) (old new : State) (told : Bool) → All (HasMove m.cells) moves → AreMoves m inside moves old new told → IsAdmissible m inside old → Keeps m inside old new
    by_moves [] old new told all (same, none) h = none_made old new same h
    by_moves (move ∷ moves) old new told all made h =
        let first = by_move move old made.mid (all 0 move (omega arith)) made.step h in
        then old made.mid new first (by_moves moves made.mid new made.told_after (λ i d l. all (suc i) d (omega (arith, l))) made.after first.admissible)

-- the moves of a pass
has_move : (n : Counts) (move : Move) → IsMoveOn n move → HasMove n move
has_move n (Node p) h = h
has_move n (Loop axis e) h = h

pub pass_has : (n : Counts) → All (HasMove n) (pass_moves n)
pass_has n i d l = has_move n _ (moves_are n _ (Contains-get_or (pass_moves n) i d l))
