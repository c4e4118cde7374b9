use Rattle.std.proofs.Common.{◌≡◌, vec_len}
use Rattle.tb_gradients.proofs.solver.apply.Given as goal

abbrev pub invariant-loop : goal.invariant-loop
invariant-loop g l = vec_len l.q.entries ≡ vec_len l.initial.q.entries
