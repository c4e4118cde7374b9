use Rattle.tb_grid.proofs.Rising.{RisesBelow}
use Rattle.tb_grid.proofs.axis.first_not_rising.Given as goal

abbrev pub invariant-loop-n : goal.invariant-loop-n
invariant-loop-n l = RisesBelow l.lines l.n
