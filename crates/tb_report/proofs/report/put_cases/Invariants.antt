use Rattle.std.proofs.Common.{take}
use Rattle.std.specs.List.{flat_map}
use Rattle.tb_report.specs.Texts.{case_line}
use Rattle.tb_outside.specs.Buffers.{Gathers}
use Rattle.tb_report.proofs.report.put_cases.Given as goal

-- the lines so far were put
abbrev pub invariant-loop-case : goal.invariant-loop-case
invariant-loop-case g l = Gathers g.K.Sink.holds g.K.Sink.faults l.fn.sink l.sink l.fn.buffer (flat_map (case_line l.detail) (take l.case-index l.cases)) l.buffer
