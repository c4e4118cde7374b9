-- The moves of a session, lists of them, the plain pass, plain states, and what settled means.
--
-- A move of a node sets its value, a move of a loop or of a cycle adds a multiple of it to the flux: each to the least
-- of the weighted energy within the limits, and the nearest to what it was.
use Rattle.std.specs.Prelude.{◌≡◌, ◌||◌, ◌<◌, ℕ, zero, suc, Bool, List, replicate, ℤ, pos}
use Rattle.tb_places.specs.Inverse.{edge_place}
use Rattle.tb_places.specs.declared.Place.{Place}
use Rattle.tb_places.specs.Places.{edge_count, face_count, node_count, node_number}
use Rattle.tb_model.specs.Energy.{Case}
use Rattle.tb_model.specs.Mesh.{Mesh}
use Rattle.tb_weighted.specs.Moves.{IsInnerEdge, IsLoopMove, IsNodeMove, IsPass, State, nodes}
use Rattle.tb_weighted.specs.Sequences.{AreMade}
use Rattle.tb_cycles.specs.Entries.{HasCycle}
use Rattle.tb_cycles.specs.Moves.{IsCycleMove}
use Rattle.tb_cycle_moves.specs.Turns.{AreCycleTurns}
use Rattle.tb_moves.specs.declared.moves.Move.{Move}
use Rattle.tb_moves.specs.declared.moves.Move.TheVariants.{Node, Loop, Cycle}

-- the node exists, or the edge with a cell on each of its four sides, or the face is a surface face and not a root
abbrev pub HasMove : Mesh → Move → Type 0
HasMove m (Node n) = n.0 < node_count m.cells
HasMove m (Loop e) = (e.1 < edge_count m.cells e.0) × IsInnerEdge m.cells e.0 (edge_place m.cells e.0 e.1)
HasMove m (Cycle f) = (f.0 < face_count m.cells) × HasCycle m f.0

abbrev pub IsMove : Mesh → Case → Move → State → State → Type 0
IsMove m inside (Node n) old new = IsNodeMove m inside n.0 old.field new.field × (new.flux ≡ old.flux)
IsMove m inside (Loop e) old new = IsLoopMove m inside e.0 (edge_place m.cells e.0 e.1) old.flux new.flux × (new.field ≡ old.field)
IsMove m inside (Cycle f) old new = IsCycleMove m inside f.0 old.flux new.flux × (new.field ≡ old.field)

-- the moves of a list in order; `told` says that one of them changed the state
abbrev pub AreMoves : Mesh → Case → List Move → State → State → Bool → Type 0
AreMoves m inside moves old new told = AreMade State Move (IsMove m inside) moves old new told

-- a plain pass: the moves of all nodes, of the loops of all edges inside the hull, and of all cycles, each in order
pub record IsPlainPass (m : Mesh) (inside : Case) (old new : State) (told : Bool) : Type 0 where
  pub mid : State
  pub told_before : Bool
  pub told_after : Bool
  pub before : IsPass m inside old mid told_before
  pub cycles : AreCycleTurns m inside mid.flux new.flux told_after
  pub field : new.field ≡ mid.field
  pub any : told ≡ (told_before || told_after)

-- the state after so many plain passes from the field and the flux that are 0
abbrev pub zero_state : Mesh → State
zero_state m = record { field = replicate (node_count m.cells) (pos 0); flux = replicate (face_count m.cells) (pos 0) }

pub record IsNextPlain (m : Mesh) (inside : Case) (Before : State → Type 0) (s : State) : Type 0 where
  pub old : State
  pub told : Bool
  pub before : Before old
  pub pass : IsPlainPass m inside old s told

abbrev pub IsPlain : Mesh → Case → ℕ → State → Type 0
IsPlain m inside zero s = s ≡ zero_state m
IsPlain m inside (suc n) s = IsNextPlain m inside (IsPlain m inside n) s

-- no move changes the state
abbrev pub IsSettled : Mesh → Case → State → Type 0
IsSettled m inside s = (move : Move) → HasMove m move → (new : State) → IsMove m inside move s new → new ≡ s

-- the nodes' part of a plain pass, on a field
pub record IsRelaxedField (m : Mesh) (inside : Case) (old new : List ℤ) : Type 0 where
  pub told : Bool
  pub moves : AreMade (List ℤ) Place (λ p. IsNodeMove m inside (node_number m.cells p)) (nodes m.cells) old new told

-- no move of a cycle changes a flux
abbrev pub CyclesStay : Mesh → Case → List ℤ → Type 0
CyclesStay m inside flows = (f : ℕ) → f < face_count m.cells → HasCycle m f → (new : List ℤ) → IsCycleMove m inside f flows new → new ≡ flows
