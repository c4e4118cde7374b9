use Rattle.std.proofs.Common.{◌+◌, length}
use Rattle.tb_places.specs.Places.{cell_count}
use Rattle.tb_grid.specs.Views.{along_axes}
use Rattle.tb_walk.specs.Spreading.{IsWalk, unset_count}
use Rattle.tb_walk.proofs.spreading.spread_all.Given as goal

abbrev pub invariant-loop-cell : goal.invariant-loop-cell
invariant-loop-cell l = IsWalk (along_axes l.counts) l.marked (cell_count (along_axes l.counts)) (cell_count (along_axes l.counts)) l.reached l.work.items

abbrev pub decreases-loop-cell : goal.decreases-loop-cell
decreases-loop-cell l = unset_count l.reached + length l.work.items
