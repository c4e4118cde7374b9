use Rattle.std.proofs.Common.{take}
use Rattle.std.specs.List.{flat_map}
use Rattle.tb_outside.specs.Buffers.{Gathers}
use Rattle.tb_checker.specs.Texts.{accepted_line}
use Rattle.tb_checker.proofs.texts.put_lines.Given as goal

-- the lines so far were put
abbrev pub invariant-loop-proof : goal.invariant-loop-proof
invariant-loop-proof g l =
    Gathers g.K.Sink.holds g.K.Sink.faults l.fn.sink l.sink l.fn.buffer (flat_map (accepted_line l.bundle.detail) (take l.proof-index l.bundle.cases)) l.buffer
