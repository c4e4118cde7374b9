use Rattle.std.specs.Prelude.{unsigned_abs}
use Rattle.std.proofs.Common.{◌≡◌, ◌*◌, ◌^◌, ◌≤◌}
use Rattle.tb_sums.specs.LossSums.{run_entered}
use Rattle.tb_sums.proofs.flow_row.FlowRow.entering.Given as goal

abbrev pub invariant-loop-n : goal.invariant-loop-n
invariant-loop-n l = record { value : l.total ≡ run_entered l.self l.run l.n; size : unsigned_abs l.total ≤ l.n * (6 * 10 ^ 12) }
