use Rattle.std.proofs.Common.{take}
use Rattle.std.specs.List.{flat_map}
use Rattle.tb_outside.specs.Buffers.{Gathers}
use Rattle.tb_outside.proofs.buffer.OutputBuffer.put_pieces.Given as goal

-- the pieces so far were put
abbrev pub invariant-loop-piece : goal.invariant-loop-piece
invariant-loop-piece g l =
    Gathers g.K.Sink.holds g.K.Sink.faults l.fn.sink l.sink l.fn.self (flat_map (λ p. p.now) (take l.piece-index l.pieces)) l.self
