use Rattle.std.proofs.Common.{◌+◌, ◌-◌, ◌≤◌, vec_len}
use Rattle.tb_outside.specs.Faults.{Stands}
use Rattle.tb_outside.specs.Outside.{Takes}
use Rattle.tb_outside.proofs.source.read_all.Given as goal

-- what was taken so far is what was kept
abbrev pub invariant-loop-chunk : goal.invariant-loop-chunk
invariant-loop-chunk g l = record {
  within : vec_len l.bytes ≤ l.limit + 1;
  so_far : Takes (g.S.Source.left l.fn.source) (g.S.Source.left l.source) l.bytes.items;
  stands : Stands (g.S.Source.faults l.fn.source) (g.S.Source.faults l.source);
}

abbrev pub decreases-loop-chunk : goal.decreases-loop-chunk
decreases-loop-chunk g l = l.limit + 1 - vec_len l.bytes
