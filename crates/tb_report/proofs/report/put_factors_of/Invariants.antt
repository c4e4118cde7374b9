use Rattle.tb_factors.specs.Joined.{joined}
use Rattle.tb_report.specs.Texts.{factor_line}
use Rattle.tb_outside.specs.Buffers.{Gathers}
use Rattle.tb_report.proofs.report.put_factors_of.Given as goal

-- the lines so far were put
abbrev pub invariant-loop-e : goal.invariant-loop-e
invariant-loop-e g l = Gathers g.K.Sink.holds g.K.Sink.faults l.fn.sink l.sink l.fn.buffer (joined l.e (factor_line l.detail l.case)) l.buffer
