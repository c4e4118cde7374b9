use Rattle.std.proofs.Common.{ℕ, ◌<◌}
use Rattle.tb_model.specs.Energy.{Case}
use Rattle.tb_relax.specs.Passes.{IsTableOf}
use Rattle.tb_cycles.specs.Entries.{HasCycle}
use Rattle.tb_trees.specs.Bodies.{mesh_of}
use Rattle.tb_cycle_moves.specs.Turns.{CycleStays}
use Rattle.tb_cycle_moves.proofs.faces.some_cycle_moves.Given as goal

abbrev pub invariant-loop-face : goal.invariant-loop-face
invariant-loop-face l = (f : ℕ) → f < l.face → (inside : Case) → IsTableOf (mesh_of l.tree) inside l.table → HasCycle (mesh_of l.tree) f → CycleStays (mesh_of l.tree) inside f l.flows
