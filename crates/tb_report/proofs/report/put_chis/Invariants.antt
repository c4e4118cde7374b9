use Rattle.std.proofs.Common.{take}
use Rattle.std.specs.List.{flat_map}
use Rattle.std.specs.Prelude.{codes}
use Rattle.tb_report.specs.Texts.{value_line}
use Rattle.tb_report.specs.Values.{chi_value}
use Rattle.tb_outside.specs.Buffers.{Gathers}
use Rattle.tb_report.proofs.report.put_chis.Given as goal

-- the lines so far were put
abbrev pub invariant-loop-item : goal.invariant-loop-item
invariant-loop-item g l = Gathers g.K.Sink.holds g.K.Sink.faults l.fn.sink l.sink l.fn.buffer (flat_map (λ c. value_line (codes "chi,") c.name (chi_value l.detail l.intervals c)) (take l.item-index l.detail.chis)) l.buffer
