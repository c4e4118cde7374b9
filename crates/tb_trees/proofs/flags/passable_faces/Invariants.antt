use Rattle.std.proofs.Common.{◌≡◌}
use Rattle.tb_grid.specs.Views.{along_axes}
use Rattle.tb_model.specs.Mesh.{Mesh}
use Rattle.tb_walk.specs.Isolated.{MarkSolids}
use Rattle.tb_trees.specs.Flags.{TellPassable}
use Rattle.tb_trees.proofs.flags.passable_faces.Given as goal

abbrev pub invariant-loop-number : goal.invariant-loop-number
invariant-loop-number l = (m : Mesh) → along_axes l.counts ≡ m.cells → MarkSolids m.cells m l.solid → TellPassable m l.flags.items l.number
