use Rattle.std.proofs.Common.{◌≡◌, vec_len}
use Rattle.tb_gradients.proofs.solver.divide_shortened.Given as goal

abbrev pub invariant-loop : goal.invariant-loop
invariant-loop l = (vec_len l.p.entries ≡ vec_len l.initial.p.entries) × (vec_len l.t.entries ≡ vec_len l.initial.t.entries)
