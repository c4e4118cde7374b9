-- The flux's part of a plain pass: the moves of loops and of cycles.
use Rattle.std.specs.Prelude.{Bool, List, ℤ}
use Rattle.tb_model.specs.Energy.{Case}
use Rattle.tb_model.specs.Mesh.{Mesh}
use Rattle.tb_weighted.specs.Moves.{IsLoopMove, Move, loop_moves}
use Rattle.tb_weighted.specs.Moves.Move.{Loop, Node}
use Rattle.tb_weighted.specs.Sequences.{AreMade}
use Rattle.tb_cycle_moves.specs.Turns.{AreCycleTurns}

-- a move on a flux: that of a loop; there is none of a node
abbrev pub IsFluxMove : Mesh → Case → Move → List ℤ → List ℤ → Type 0
IsFluxMove m inside (Node p) old new = ⊥
IsFluxMove m inside (Loop a p) old new = IsLoopMove m inside a p old new

-- the moves of the loops of all edges inside the hull, and of all cycles, each in order
pub record IsRelaxedFlux (m : Mesh) (inside : Case) (old new : List ℤ) : Type 0 where
  pub mid : List ℤ
  pub told_before : Bool
  pub told_after : Bool
  pub loops : AreMade (List ℤ) Move (IsFluxMove m inside) (loop_moves m.cells) old mid told_before
  pub cycles : AreCycleTurns m inside mid new told_after
