use Rattle.tb_places.specs.Places.{cell_count}
use Rattle.tb_grid.specs.Views.{along_axes}
use Rattle.tb_walk.specs.Spreading.{IsWalk}
use Rattle.tb_walk.proofs.spreading.begin.Given as goal

abbrev pub invariant-loop-number : goal.invariant-loop-number
invariant-loop-number l = IsWalk (along_axes l.counts) l.marked (cell_count (along_axes l.counts)) l.number l.reached l.work.items
