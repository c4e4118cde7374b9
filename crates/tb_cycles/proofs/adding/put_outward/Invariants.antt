use Rattle.std.proofs.Common.{◌<◌, ◌≤◌}
use Rattle.tb_grid.specs.Views.{along_axes}
use Rattle.tb_outlets.specs.Searching.{distance_at}
use Rattle.tb_cycles.proofs.Putting.{IsPutOn}
use Rattle.tb_cycles.proofs.adding.put_outward.Given as goal

abbrev pub decreases-loop-next : goal.decreases-loop-next
decreases-loop-next l = distance_at l.marks l.cell.0

abbrev pub invariant-loop-next : goal.invariant-loop-next
invariant-loop-next l = record {
  here : 0 < distance_at l.marks l.cell.0;
  near : distance_at l.marks l.cell.0 ≤ distance_at l.marks l.fn.entry.cell.0;
  put : IsPutOn (along_axes l.counts) l.marks l.sides l.fn.entry.cell.0 l.fn.entry.side l.more l.fn.flows l.flows l.cell.0;
}
