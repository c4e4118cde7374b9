use Rattle.std.proofs.Common.{◌≡◌}
use Rattle.tb_gradients.proofs.solver.Solver.apply_split.Given as goal

abbrev pub invariant-loop : goal.invariant-loop
invariant-loop l = l.self.layout ≡ l.fn.self.layout
