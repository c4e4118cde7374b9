-- The moves on a table are moves on its mesh.
use Rattle.std.proofs.Common.{◌≡◌, ◌||◌, refl, sym, ap, subst, Bool, true, false, List, map}
use Rattle.std.proofs.lemmas.Bool.{true≢false}
use lib.IntN.{ℤ}
use Rattle.tb_places.specs.declared.Place.{Place}
use Rattle.tb_places.specs.Places.{Counts, node_number}
use Rattle.tb_model.specs.Energy.{Case}
use Rattle.tb_model.specs.Mesh.{Mesh}
use Rattle.tb_weighted.specs.Forms.{IsFormMove}
use Rattle.tb_weighted.specs.Moves.{IsMove, IsNodeMove, IsPass, Move, State, loop_moves, nodes, pass_moves}
use Rattle.tb_weighted.specs.Moves.Move.{Loop, Node}
use Rattle.tb_weighted.specs.Sequences.{AreMade}
use Rattle.tb_weighted.proofs.Bridge.{node_move}
use Rattle.tb_weighted.proofs.FlowMoves.{loop_move}
use Rattle.tb_weighted.proofs.SequenceLaws.{lifted, renamed, then}
use Rattle.tb_relax.specs.declared.table.Table.{Table}
use Rattle.tb_relax.specs.Edges.{IsFluxMove}
use Rattle.tb_relax.specs.Passes.{IsTableOf}
use Rattle.tb_relax.specs.Rounds.{counts_at}
use Rattle.tb_relax.specs.Tables.{AreNodeMoves, field_forms, flux_forms, table_counts}

abbrev pub IsFieldMove : Table → Move → List ℤ → List ℤ → Type 0
IsFieldMove t (Node p) old new = IsFormMove (field_forms t) (node_number (table_counts t) p) old new
IsFieldMove t (Loop axis e) old new = ⊥

abbrev pub state : List ℤ → List ℤ → State
state field flux = record { field = field; flux = flux }

module _ (m : Mesh) (inside : Case) (t : Table) (of : IsTableOf m inside t) where
  pub same_counts : table_counts t ≡ m.cells
  unfolding field_forms
  same_counts = of.field.cells

  pub on_field : (flux : List ℤ) (move : Move) (old new : List ℤ) → IsFieldMove t move old new → IsMove m inside move (state old flux) (state new flux)
  on_field flux (Node p) old new h = (subst (λ (n : Counts). IsNodeMove m inside (node_number n p) old new) same_counts (node_move m inside (field_forms t) (node_number (table_counts t) p) old new of.field h), refl)
  on_field flux (Loop axis e) old new h = absurd h

  pub on_flux : (field : List ℤ) (move : Move) (old new : List ℤ) → IsFluxMove t move old new → IsMove m inside move (state field old) (state field new)
  on_flux field (Node p) old new h = absurd h
  on_flux field (Loop axis e) old new h = (loop_move m inside (flux_forms t) (counts_at t) axis e old new of.flux of.counts h, refl)

  pub whole_pass : (values new_values flows new_flows : List ℤ) (x y told : Bool) → AreNodeMoves t (nodes (table_counts t)) values new_values x → AreMade (List ℤ) Move (IsFluxMove t) (loop_moves (table_counts t)) flows new_flows y → (x || y) ≡ told
      → IsPass m inside (state values flows) (state new_values new_flows) told
  whole_pass values new_values flows new_flows x y told a b e =
      subst (λ (n : Counts). AreMade State Move (IsMove m inside) (pass_moves n) (state values flows) (state new_values new_flows) told) same_counts
      (subst (λ (d : Bool). AreMade State Move (IsMove m inside) (pass_moves (table_counts t)) (state values flows) (state new_values new_flows) d) e
      (then State Move (IsMove m inside) (map Node (nodes (table_counts t))) (loop_moves (table_counts t)) (state values flows) (state new_values flows) (state new_values new_flows) x y
      (lifted (List ℤ) State Move (IsFieldMove t) (IsMove m inside) (λ v. state v flows) (λ u v p. ap (λ (s : State). s.field) p) (on_field flows) (map Node (nodes (table_counts t))) values new_values x
      (renamed (List ℤ) Place Move (λ (p : Place). IsFormMove (field_forms t) (node_number (table_counts t) p)) (IsFieldMove t) Node (λ p k l h. h) (nodes (table_counts t)) values new_values x a))
      (lifted (List ℤ) State Move (IsFluxMove t) (IsMove m inside) (λ v. state new_values v) (λ u v p. ap (λ (s : State). s.flux) p) (on_flux new_values) (loop_moves (table_counts t)) flows new_flows y b)))

pub told_here : (x y : Bool) → x ≡ true → (x || y) ≡ x
told_here true y e = refl
told_here false y e = absurd (true≢false (sym e))

pub told_after : (x y : Bool) → x ≡ false → (x || y) ≡ y
told_after true y e = absurd (true≢false e)
told_after false y e = refl
