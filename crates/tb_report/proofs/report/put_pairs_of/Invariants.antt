use Rattle.std.proofs.Common.{[]}
use Rattle.std.specs.Prelude.{nat_lt, if◌then◌else◌}
use Rattle.tb_factors.specs.Joined.{joined}
use Rattle.tb_report.specs.Texts.{pair_line}
use Rattle.tb_outside.specs.Buffers.{Gathers}
use Rattle.tb_report.proofs.report.put_pairs_of.Given as goal

-- the lines so far were put
abbrev pub invariant-loop-j : goal.invariant-loop-j
invariant-loop-j g l = Gathers g.K.Sink.holds g.K.Sink.faults l.fn.sink l.sink l.fn.buffer (joined l.j (λ j. if nat_lt l.i j then pair_line l.detail l.intervals l.i j else [])) l.buffer
