use Rattle.std.proofs.Common.{take}
use Rattle.std.specs.List.{flat_map}
use Rattle.tb_outside.specs.Buffers.{Gathers}
use Rattle.tb_planar.specs.Printed.{answer}
use Rattle.tb_uvalues.specs.Texts.{line_of}
use Rattle.tb_uvalues.proofs.list.put_lines.Given as goal

-- the lines so far were put
abbrev pub invariant-loop-place : goal.invariant-loop-place
invariant-loop-place g l =
    Gathers g.K.Sink.holds g.K.Sink.faults l.fn.sink l.sink l.fn.buffer (flat_map (λ p. line_of p (answer l.detail p)) (take l.place l.detail.parts)) l.buffer
