use Rattle.std.proofs.Common.{◌≤◌, length}
use Rattle.tb_gradients.proofs.matrix.find_spans.Given as goal

abbrev pub invariant-loop-at : goal.invariant-loop-at
invariant-loop-at l = l.count ≤ length l.spans
