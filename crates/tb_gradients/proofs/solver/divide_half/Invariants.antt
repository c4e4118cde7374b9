use Rattle.std.proofs.Common.{◌≡◌, vec_len}
use Rattle.tb_gradients.proofs.solver.divide_half.Given as goal

abbrev pub invariant-loop : goal.invariant-loop
invariant-loop l = vec_len l.s.entries ≡ vec_len l.initial.s.entries
