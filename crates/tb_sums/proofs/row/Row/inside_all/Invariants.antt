use Rattle.std.proofs.Common.{◌≡◌, ◌*◌, ◌^◌, ◌≤◌, pos}
use Rattle.tb_sums.specs.RunSums.{inside_up}
use Rattle.tb_sums.proofs.row.Row.inside_all.Given as goal

abbrev pub invariant-loop-n : goal.invariant-loop-n
invariant-loop-n l = record { value : pos l.total ≡ inside_up l.self l.run l.n; most : l.total ≤ l.n * (375 * 10 ^ 23) }
