use Rattle.tb_grid.specs.Grid.{counts_of}
use Rattle.tb_walk.specs.Marks.{HasOpening, IsMarked}
use Rattle.tb_walk.proofs.Ends.{AllReachBelow}
use Rattle.tb_walk.proofs.first_isolated.Given as goal

abbrev pub invariant-loop-number : goal.invariant-loop-number
invariant-loop-number l = AllReachBelow (counts_of l.fn.grid) (IsMarked (counts_of l.fn.grid) l.solid) (HasOpening (counts_of l.fn.grid) l.solid) l.number
