-- The states that a session of the solver keeps to, and the moves that it has.
use Rattle.std.specs.Prelude.{◌^◌, ℤ, pos, ◌≤ℤ◌, replicate}
use Rattle.tb_places.specs.Places.{Counts, IsNode, face_count, node_count}
use Rattle.tb_model.specs.Energy.{Case, IsBalanced}
use Rattle.tb_model.specs.Mesh.{Mesh}
use Rattle.tb_model.specs.Values.{flux_of}
use Rattle.tb_weighted.specs.Limits.{IsField, IsFlux}
use Rattle.tb_weighted.specs.Moves.{IsInnerEdge, Move, State}
use Rattle.tb_weighted.specs.Moves.Move.{Loop, Node}
use Rattle.tb_weighted.specs.Weighted.{weighted_flux}

-- the most weighted energy of a flux, and the most rounded loss of one with so much, in fW/K
abbrev pub most_energy : ℤ
most_energy = pos (2 ^ 103)

abbrev pub most_loss : ℤ
most_loss = pos (10 ^ 25)

-- Field and flux fit the mesh and are within limits, the flux is balanced, and its weighted energy isn't too large.
pub record IsAdmissible (m : Mesh) (inside : Case) (s : State) : Type 0 where
  pub field : IsField m.cells s.field
  pub flux : IsFlux m.cells s.flux
  pub balanced : IsBalanced m (flux_of m.cells s.flux)
  pub energy : weighted_flux m inside (flux_of m.cells s.flux) ≤ℤ most_energy

-- the state without heat: a temperature of 0 at each node, and no flow through any face
abbrev pub without_heat : Counts → State
without_heat n = record { field = replicate (node_count n) (pos 0); flux = replicate (face_count n) (pos 0) }

-- a grid has a move: its node is one of the grid's, or its edge lies inside the hull
abbrev pub HasMove : Counts → Move → Type 0
HasMove n (Node p) = IsNode n p
HasMove n (Loop axis e) = IsInnerEdge n axis e
