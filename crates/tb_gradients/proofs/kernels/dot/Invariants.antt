use Rattle.std.proofs.Common.{◌^◌, ◌≤◌, ◌*◌, unsigned_abs}
use Rattle.tb_gradients.proofs.kernels.dot.Given as goal

abbrev pub invariant-loop-i : goal.invariant-loop-i
invariant-loop-i l = unsigned_abs l.sum ≤ l.i * 2 ^ 106
