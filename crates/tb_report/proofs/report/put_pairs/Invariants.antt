use Rattle.std.proofs.Common.{[], length}
use Rattle.std.specs.Prelude.{nat_lt, if◌then◌else◌}
use Rattle.tb_factors.specs.Joined.{joined}
use Rattle.tb_report.specs.Texts.{pair_line}
use Rattle.tb_outside.specs.Buffers.{Gathers}
use Rattle.tb_report.proofs.report.put_pairs.Given as goal

-- the lines so far were put
abbrev pub invariant-loop-i : goal.invariant-loop-i
invariant-loop-i g l = Gathers g.K.Sink.holds g.K.Sink.faults l.fn.sink l.sink l.fn.buffer (joined l.i (λ i. joined (length l.detail.environments) (λ j. if nat_lt i j then pair_line l.detail l.intervals i j else []))) l.buffer
