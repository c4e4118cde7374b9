-- What is done along the outlet tree of a setting is done on its mesh.
use Rattle.std.proofs.Common.{◌≡◌, ◌↔◌, ◌<◌, refl, sym, ap, ◌∙◌, subst, ℕ, Bool, true, false, not, IsTrue, IsFalse, List, ⊎_elim}
use Rattle.std.proofs.lemmas.Bool.{false≢true}
use lib.IntN.{ℤ}
use Rattle.tb_places.specs.Places.{Counts, face_count}
use Rattle.tb_places.proofs.ByAxis.{same_by_axis}
use Rattle.tb_grid.specs.Grid.{counts_of}
use Rattle.tb_model.specs.Energy.{Case}
use Rattle.tb_model.specs.Mesh.{Mesh}
use Rattle.tb_outlets.specs.declared.marks.Mark.{Mark}
use Rattle.tb_outlets.specs.declared.side.Side.{Side}
use Rattle.tb_outlets.specs.Balancing.{side_at}
use Rattle.tb_outlets.specs.Searching.{distance_at}
use Rattle.tb_weighted.specs.Limits.{IsFlux}
use Rattle.tb_cycles.specs.Entries.{HasCycle}
use Rattle.tb_cycles.specs.Moves.{IsCycleMove}
use Rattle.tb_cycles.specs.Ways.{LeadOut}
use Rattle.tb_trees.specs.Bodies.{BodyOnGrid, mesh_of}
use Rattle.tb_relax.specs.declared.table.Table.{Table}
use Rattle.tb_relax.specs.Passes.{IsTableOf}
use Rattle.tb_cycle_moves.specs.Turns.{AreCycleTurns, CycleStays, IsCycleTurn, SomeCycleMoves}
use Rattle.tb_cycle_moves.proofs.OneMove.{one_move}
use Rattle.tb_moves.specs.Moves.{CyclesStay}
use Rattle.tb_moves.specs.Settings.{Setting, case_in, mesh_in}

pub has_of : (m : Mesh) (inside : Case) (f : ℕ) (old new : List ℤ) → IsCycleMove m inside f old new → HasCycle m f
has_of m inside f old new move = record { cell = move.is_cycle.cell; side = move.is_cycle.side; entry = move.is_cycle.entry }

-- a face that has a cycle is moved in its turn
pub moved_in_turn : (m : Mesh) (inside : Case) (f : ℕ) (old new : List ℤ) → HasCycle m f → IsCycleTurn m inside f old new → IsCycleMove m inside f old new
moved_in_turn m inside f old new has turn = ⊎_elim (λ (h : IsCycleMove m inside f old new). h) (λ (h : (¬ HasCycle m f) × (new ≡ old)). absurd (h.0 has)) turn

-- what a test that none moves tells
pub none_moves : (some : Bool) (P : Type 0) → (IsFalse some → P) → (IsTrue some → P → ⊥) → IsTrue (not some) ↔ P
none_moves true P h k = (λ e. absurd (false≢true e), λ p. absurd (k refl p))
none_moves false P h k = (λ e. h refl, λ p. refl)

all_stay : (b : BodyOnGrid) (inside : Case) (flows : List ℤ) (marks : List Mark) (sides : List Side) → LeadOut (mesh_of b) marks sides → IsFlux (mesh_of b).cells flows
    → ((f : ℕ) → f < face_count (counts_of b.grid) → HasCycle (mesh_of b) f → CycleStays (mesh_of b) inside f flows) → CyclesStay (mesh_of b) inside flows
all_stay b inside flows marks sides leads flux stay f within has new move =
    one_move (mesh_of b) inside f (side_at sides) (distance_at marks) leads.outlets leads.distances flows flux new flows move (stay f within has)

some_moves : (m : Mesh) (inside : Case) (flows : List ℤ) → SomeCycleMoves m inside flows → CyclesStay m inside flows → ⊥
some_moves m inside flows some stay = some.moves.differs (stay some.face some.in_grid (has_of m inside some.face flows some.moves.new some.moves.move) some.moves.new some.moves.move)

module _ (v : Setting) (b : BodyOnGrid) (same : b ≡ record { body = v.body; grid = v.grid }) where
  same_counts : counts_of v.grid ≡ (mesh_in v).cells
  same_counts = same_by_axis (mesh_in v).cells _ _ _ refl refl refl

  pub counts_there : (n : Counts) → n ≡ (mesh_in v).cells → n ≡ counts_of b.grid
  counts_there n e = e ∙ sym same_counts ∙ ap (λ (c : BodyOnGrid). counts_of c.grid) (sym same)

  pub face_there : (f : ℕ) → f < face_count (mesh_in v).cells → f < face_count (counts_of b.grid)
  face_there f h = subst (λ (c : BodyOnGrid). f < face_count (counts_of c.grid)) (sym same) h

  pub table_there : (t : Table) → IsTableOf (mesh_in v) (case_in v) t → IsTableOf (mesh_of b) (case_in v) t
  table_there t of = subst (λ (c : BodyOnGrid). IsTableOf (mesh_of c) (case_in v) t) (sym same) of

  pub turn_here : (f : ℕ) (old new : List ℤ) → IsCycleTurn (mesh_of b) (case_in v) f old new → IsCycleTurn (mesh_in v) (case_in v) f old new
  turn_here f old new h = subst (λ (c : BodyOnGrid). IsCycleTurn (mesh_of c) (case_in v) f old new) same h

  pub turns_here : (old new : List ℤ) (told : Bool) → AreCycleTurns (mesh_of b) (case_in v) old new told → AreCycleTurns (mesh_in v) (case_in v) old new told
  turns_here old new told h = subst (λ (c : BodyOnGrid). AreCycleTurns (mesh_of c) (case_in v) old new told) same h

  pub stay_here : (flows : List ℤ) (marks : List Mark) (sides : List Side) → LeadOut (mesh_of b) marks sides → IsFlux (mesh_in v).cells flows
      → ((f : ℕ) → f < face_count (counts_of b.grid) → HasCycle (mesh_of b) f → CycleStays (mesh_of b) (case_in v) f flows) → CyclesStay (mesh_in v) (case_in v) flows
  stay_here flows marks sides leads flux stay = subst (λ (c : BodyOnGrid). CyclesStay (mesh_of c) (case_in v) flows) same
      (all_stay b (case_in v) flows marks sides leads (subst (λ (c : BodyOnGrid). IsFlux (mesh_of c).cells flows) (sym same) flux) stay)

  pub some_unsettles : (flows : List ℤ) → SomeCycleMoves (mesh_of b) (case_in v) flows → CyclesStay (mesh_in v) (case_in v) flows → ⊥
  some_unsettles flows some stay = some_moves (mesh_of b) (case_in v) flows some (subst (λ (c : BodyOnGrid). CyclesStay (mesh_of c) (case_in v) flows) (sym same) stay)
