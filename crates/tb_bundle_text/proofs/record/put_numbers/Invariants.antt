use Rattle.std.proofs.Common.{◌++◌, take}
use Rattle.std.specs.List.{flat_map}
use Rattle.tb_outside.specs.Buffers.{Gathers}
use Rattle.tb_bundle_text.proofs.Joined.{behind_comma}
use Rattle.tb_bundle_text.proofs.record.put_numbers.Given as goal

-- the word and the numbers so far were put
abbrev pub invariant-loop-number : goal.invariant-loop-number
invariant-loop-number g l =
    Gathers g.K.Sink.holds g.K.Sink.faults l.fn.sink l.sink l.fn.buffer (l.word ++ flat_map (behind_comma g.T.WrittenNumber.text) (take l.number-index l.numbers)) l.buffer
