use Rattle.std.proofs.Common.{[], ◌∷◌, take}
use Rattle.std.specs.List.{flat_map}
use Rattle.tb_outside.specs.Buffers.{Gathers}
use Rattle.tb_outside.proofs.tests.put_cells.Given as goal

-- the cells so far were put
abbrev pub invariant-loop-value : goal.invariant-loop-value
invariant-loop-value g l =
    Gathers g.K.Sink.holds g.K.Sink.faults l.fn.sink l.sink l.fn.buffer (flat_map (λ v. 44 ∷ v ∷ []) (take l.value-index l.values)) l.buffer
