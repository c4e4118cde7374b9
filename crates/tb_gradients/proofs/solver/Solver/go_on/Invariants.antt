use Rattle.std.proofs.Common.{◌≡◌}
use Rattle.tb_gradients.proofs.solver.Solver.go_on.Given as goal

abbrev pub invariant-loop-steps : goal.invariant-loop-steps
invariant-loop-steps l = l.self.layout ≡ l.fn.self.layout
