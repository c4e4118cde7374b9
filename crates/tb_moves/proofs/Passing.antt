-- The three parts of a pass as one, and a flux that is relaxed.
use Rattle.std.proofs.Common.{◌≡◌, ◌||◌, refl, sym, ap, ◌∙◌, subst, arith, ℕ, suc, Bool, IsFalse, List, [], ◌∷◌, Option}
use Rattle.std.specs.List.{All}
use lib.IntN.{ℤ}
use Rattle.tb_places.specs.declared.Place.{Place}
use Rattle.tb_places.specs.Places.{Counts, node_number}
use Rattle.tb_places.specs.Places.{face_count}
use Rattle.tb_places.proofs.ByAxis.{same_by_axis}
use Rattle.tb_grid.specs.Grid.{counts_of}
use Rattle.tb_model.specs.Energy.{Case, IsBalanced}
use Rattle.tb_model.specs.Mesh.{Mesh}
use Rattle.tb_model.specs.Values.{flux_of}
use Rattle.tb_flux.specs.Fluxes.{flux_on}
use Rattle.tb_weighted.specs.Moves.{IsNodeMove, Move, counting, loop_moves, nodes}
use Rattle.tb_weighted.specs.Moves.Move.{Loop, Node}
use Rattle.tb_weighted.specs.Sequences.{AreMade}
use Rattle.tb_relax.specs.Balance.{IsFilled}
use Rattle.tb_relax.proofs.Balance.{keeps_balance}
use Rattle.tb_costs.specs.Admissible.{HasMove}
use Rattle.tb_costs.proofs.Filling.{body_fills}
use Rattle.tb_cycle_moves.specs.Turns.{AreCycleTurns, IsCycleTurn}
use Rattle.tb_cycle_moves.proofs.Keeping.{turns_keep_balance}
use Rattle.tb_moves.specs.FluxPasses.{IsFluxMove}
use Rattle.tb_moves.specs.Keeping.{KeepsSession}
use Rattle.tb_moves.specs.Moves.{IsPlainPass}
use Rattle.tb_moves.specs.Sessions.{AreAlike, Session, inside_of, mesh_of, state_of, with_field, with_flux}
use Rattle.tb_moves.proofs.Applying.{alike_trans, field_alike, flux_alike, neither}
use Rattle.tb_moves.proofs.Kept.{loops_have, none_told, pass_made, state}

module _ (s t u w : Session) (x y z told : Bool) (rest : t ≡ with_field s t.field) (rest' : u ≡ with_flux t u.flux) (rest'' : w ≡ with_flux u w.flux)
    (nodes_made : AreMade (List ℤ) Place (λ p. IsNodeMove (mesh_of s) (inside_of s) (node_number (mesh_of s).cells p)) (nodes (mesh_of s).cells) s.field t.field x)
    (loops_made : AreMade (List ℤ) Move (IsFluxMove (mesh_of t) (inside_of t)) (loop_moves (mesh_of t).cells) t.flux u.flux y)
    (cycles_made : AreCycleTurns (mesh_of u) (inside_of u) u.flux w.flux z) (any : told ≡ ((x || y) || z)) where
  loops_there : AreMade (List ℤ) Move (IsFluxMove (mesh_of s) (inside_of s)) (loop_moves (mesh_of s).cells) s.flux u.flux y
  loops_there = subst (λ (v : Session). AreMade (List ℤ) Move (IsFluxMove (mesh_of v) (inside_of v)) (loop_moves (mesh_of v).cells) v.flux u.flux y) rest loops_made

  as_flux : u ≡ with_flux (with_field s t.field) u.flux
  as_flux = rest' ∙ ap (λ (v : Session). with_flux v u.flux) rest

  cycles_there : AreCycleTurns (mesh_of s) (inside_of s) u.flux w.flux z
  cycles_there = subst (λ (v : Session). AreCycleTurns (mesh_of v) (inside_of v) v.flux w.flux z) as_flux cycles_made

  pub passed : IsPlainPass (mesh_of s) (inside_of s) (state_of s) (state_of w) told
  passed = record {
    mid = state t.field u.flux;
    told_before = x || y;
    told_after = z;
    before = pass_made (mesh_of s) (inside_of s) s.field t.field s.flux u.flux x y nodes_made loops_there;
    cycles = cycles_there;
    field = ap (λ (v : Session). v.field) rest'' ∙ ap (λ (v : Session). v.field) rest';
    any = any;
  }

  pub pass_alike : AreAlike s w
  pass_alike = alike_trans s t w (field_alike s t x rest) (alike_trans t u w (flux_alike t u y rest') (flux_alike u w z rest''))

  pub pass_stays : IsFalse told → w ≡ s
  pass_stays f =
      let whole = neither (x || y) z told (sym any) f in
      let both = neither x y (x || y) refl whole.0 in
      (rest'' ∙ ap (λ (v : List ℤ). with_flux u v) (none_told ℕ (IsCycleTurn (mesh_of u) (inside_of u)) (counting 0 (face_count (mesh_of u).cells)) u.flux w.flux z cycles_made whole.1))
      ∙ (rest' ∙ ap (λ (v : List ℤ). with_flux t v) (none_told Move (IsFluxMove (mesh_of t) (inside_of t)) (loop_moves (mesh_of t).cells) t.flux u.flux y loops_made both.1))
      ∙ (rest ∙ ap (λ (v : List ℤ). with_field s v) (none_told Place (λ p. IsNodeMove (mesh_of s) (inside_of s) (node_number (mesh_of s).cells p)) (nodes (mesh_of s).cells) s.field t.field x nodes_made both.0))

-- ---- a flux that is relaxed keeps its balance
module _ (m : Mesh) (inside : Case) (filled : IsFilled m) where
  loops_balance : (ms : List Move) (old new : List ℤ) (told : Bool) → All (HasMove m.cells) ms → AreMade (List ℤ) Move (IsFluxMove m inside) ms old new told
      → IsBalanced m (flux_of m.cells old) → IsBalanced m (flux_of m.cells new)
  loops_balance [] old new told all (same, none) b = subst (λ (v : List ℤ). IsBalanced m (flux_of m.cells v)) (sym same) b
  loops_balance (Node p ∷ ms) old new told all made b = absurd made.step
  loops_balance (Loop a e ∷ ms) old new told all made b = loops_balance ms made.mid new made.told_after (λ i d l. all (suc i) d (omega (arith, l))) made.after
      (keeps_balance m inside a e old made.mid made.step (all 0 (Loop a e) (omega arith)) filled b)

module _ (s : Session) where
  same_counts : counts_of s.grid ≡ (mesh_of s).cells
  same_counts = same_by_axis (mesh_of s).cells _ _ _ refl refl refl

  module _ (upper lower : Option ℤ) (keeps : KeepsSession s upper lower) (old mid new : List ℤ) (x y : Bool) where
    pub relaxed_balance : AreMade (List ℤ) Move (IsFluxMove (mesh_of s) (inside_of s)) (loop_moves (mesh_of s).cells) old mid x → AreCycleTurns (mesh_of s) (inside_of s) mid new y
        → IsBalanced (mesh_of s) (flux_on s.grid old) → IsBalanced (mesh_of s) (flux_on s.grid new)
    relaxed_balance loops cycles b = subst (λ (n : Counts). IsBalanced (mesh_of s) (flux_of n new)) (sym same_counts)
        (turns_keep_balance (mesh_of s) (inside_of s) mid new y cycles
        (loops_balance (mesh_of s) (inside_of s) (body_fills s.body s.grid keeps.accepted keeps.carries) (loop_moves (mesh_of s).cells) old mid x (loops_have (mesh_of s) (inside_of s)) loops
        (subst (λ (n : Counts). IsBalanced (mesh_of s) (flux_of n old)) same_counts b)))
