use Rattle.std.specs.List.{repeat}
use Rattle.tb_case_records.specs.Table.{layer_rows}
use Rattle.tb_bundle_text.specs.Writing.{Puts}
use Rattle.tb_bundle_text.proofs.values.put_layers.Given as goal

-- the layers so far were put
abbrev pub invariant-loop-layer : goal.invariant-loop-layer
invariant-loop-layer g l = Puts g.K.Sink.holds g.K.Sink.faults l.fn.sink l.sink l.fn.buffer l.buffer (repeat l.layer (layer_rows l.counts.x l.counts.y)) l.values l.left
