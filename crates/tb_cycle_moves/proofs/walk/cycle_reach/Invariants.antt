use Rattle.std.proofs.Common.{◌+◌, ◌*◌, ◌-◌, ◌^◌, ◌<◌, ◌≤◌}
use Rattle.std.specs.Prelude.{pos, negsuc, ◌≤ℤ◌, unsigned_abs}
use Rattle.tb_outlets.specs.Searching.{distance_at}
use Rattle.tb_cycle_moves.specs.Reaches.{most_rate, most_slope}
use Rattle.tb_cycle_moves.proofs.Steps.{IsUnderWayOn}
use Rattle.tb_cycle_moves.proofs.walk.cycle_reach.Given as goal

abbrev pub decreases-loop-next : goal.decreases-loop-next
decreases-loop-next l = distance_at l.marks l.at.cell.0

abbrev pub invariant-loop-next : goal.invariant-loop-next
invariant-loop-next l = record {
  here : 0 < distance_at l.marks l.at.cell.0;
  rate : unsigned_abs l.so_far.pull.rate + distance_at l.marks l.at.cell.0 * most_rate ≤ (distance_at l.marks l.fn.entry.cell.0 + 1) * most_rate;
  slope : unsigned_abs l.so_far.pull.slope + distance_at l.marks l.at.cell.0 * most_slope ≤ (distance_at l.marks l.fn.entry.cell.0 + 1) * most_slope;
  opens_up : pos 0 ≤ℤ l.so_far.pull.rate;
  under : l.so_far.low ≤ℤ pos 0;
  over : pos 0 ≤ℤ l.so_far.high;
  low_far : negsuc (4 * 10 ^ 12 - 1) ≤ℤ l.so_far.low;
  high_far : l.so_far.high ≤ℤ pos (4 * 10 ^ 12);
  way : IsUnderWayOn l.table l.marks l.sides l.flows l.fn.entry.cell.0 l.fn.entry.side l.at.cell.0 l.at.side l.so_far;
}
