use Rattle.std.proofs.Common.{◌++◌, take}
use Rattle.std.specs.List.{flat_map}
use Rattle.tb_outside.specs.Buffers.{Gathers}
use Rattle.tb_canonical.proofs.Joined.{behind_comma}
use Rattle.tb_canonical.proofs.record.put_record.Given as goal

-- the word and the fields so far were put
abbrev pub invariant-loop-field : goal.invariant-loop-field
invariant-loop-field g l =
    Gathers g.K.Sink.holds g.K.Sink.faults l.fn.sink l.sink l.fn.buffer (l.word ++ flat_map behind_comma (take l.field-index l.fields)) l.buffer
