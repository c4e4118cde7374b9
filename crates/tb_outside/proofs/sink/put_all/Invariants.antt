use Rattle.std.proofs.Common.{◌≡◌, [], length, take, ◌-◌, ◌≤◌}
use Rattle.tb_outside.specs.Faults.{Stands}
use Rattle.tb_outside.specs.Outside.{Adds}
use Rattle.tb_outside.proofs.sink.put_all.Given as goal

-- the front of the piece was appended
abbrev pub invariant-loop-at : goal.invariant-loop-at
invariant-loop-at g l = record {
  within : l.at ≤ length l.piece;
  so_far : Adds (g.K.Sink.holds l.fn.sink) (g.K.Sink.holds l.sink) (take l.at l.piece);
  stands : Stands (g.K.Sink.faults l.fn.sink) (g.K.Sink.faults l.sink);
  idle : l.piece ≡ [] → l.sink ≡ l.fn.sink;
}

abbrev pub decreases-loop-at : goal.decreases-loop-at
decreases-loop-at g l = length l.piece - l.at
