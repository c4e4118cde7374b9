use Rattle.std.proofs.Common.{[], ◌∷◌}
use Rattle.tb_outside.proofs.Each.{gathers_next}
use Rattle.tb_outside.proofs.tests.put_cells.Goals as goal

pub loop-value-preserved : goal.loop-value-preserved
loop-value-preserved g c = gathers_next (λ v. 44 ∷ v ∷ []) _ _ 0 c.loop-value-test.true c.loop-value.invariant c.put_cell.ensures
