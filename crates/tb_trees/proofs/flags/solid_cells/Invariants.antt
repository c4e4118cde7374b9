use Rattle.tb_grid.specs.Grid.{counts_of}
use Rattle.tb_geometry.specs.Grids.{mesh_on}
use Rattle.tb_trees.specs.Flags.{TellSolids}
use Rattle.tb_trees.proofs.flags.solid_cells.Given as goal

abbrev pub invariant-loop-number : goal.invariant-loop-number
invariant-loop-number l = TellSolids (mesh_on l.body l.grid) (counts_of l.grid) l.flags.items l.number
