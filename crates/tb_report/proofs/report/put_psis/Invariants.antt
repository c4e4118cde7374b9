use Rattle.std.proofs.Common.{take}
use Rattle.std.specs.List.{flat_map}
use Rattle.std.specs.Prelude.{codes}
use Rattle.tb_report.specs.Texts.{value_line}
use Rattle.tb_report.specs.Values.{psi_value}
use Rattle.tb_outside.specs.Buffers.{Gathers}
use Rattle.tb_report.proofs.report.put_psis.Given as goal

-- the lines so far were put
abbrev pub invariant-loop-item : goal.invariant-loop-item
invariant-loop-item g l = Gathers g.K.Sink.holds g.K.Sink.faults l.fn.sink l.sink l.fn.buffer (flat_map (λ p. value_line (codes "psi,") p.name (psi_value l.detail l.intervals p)) (take l.item-index l.detail.psis)) l.buffer
