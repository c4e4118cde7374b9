use Rattle.std.proofs.Common.{take}
use Rattle.tb_outside.specs.Buffers.{Gathers}
use Rattle.tb_canonical.specs.Canonical.{names_in}
use Rattle.tb_canonical.proofs.Joined.{text_so_far}
use Rattle.tb_canonical.proofs.record.put_row.Given as goal

-- the word and the fields so far were put
abbrev pub invariant-loop-at : goal.invariant-loop-at
invariant-loop-at g l =
    Gathers g.K.Sink.holds g.K.Sink.faults l.fn.sink l.sink l.fn.buffer (text_so_far (names_in l.detail) l.kind l.item (take l.at l.values)) l.buffer
