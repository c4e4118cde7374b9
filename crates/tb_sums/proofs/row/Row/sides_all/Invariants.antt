use Rattle.std.proofs.Common.{◌≡◌, ◌*◌, ◌^◌, ◌≤◌, pos}
use Rattle.tb_sums.specs.RunSums.{sides_up}
use Rattle.tb_sums.proofs.row.Row.sides_all.Given as goal

abbrev pub invariant-loop-n : goal.invariant-loop-n
invariant-loop-n l = record { value : pos l.total ≡ sides_up l.self l.run l.n; most : l.total ≤ l.n * (15 * 10 ^ 22) }
