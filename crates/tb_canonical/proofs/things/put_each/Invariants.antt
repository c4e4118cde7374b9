use Rattle.std.proofs.Common.{take}
use Rattle.std.specs.List.{flat_map}
use Rattle.tb_outside.specs.Buffers.{Gathers}
use Rattle.tb_canonical.proofs.things.put_each.Given as goal

-- those so far were put
abbrev pub invariant-loop-thing : goal.invariant-loop-thing
invariant-loop-thing g l =
    Gathers g.K.Sink.holds g.K.Sink.faults l.fn.sink l.sink l.fn.buffer (flat_map (g.T.Written.text l.detail l.item) (take l.thing-index l.things)) l.buffer
