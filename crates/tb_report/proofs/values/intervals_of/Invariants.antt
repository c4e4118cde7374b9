use Rattle.std.proofs.Common.{◌≡◌, length, take, map}
use Rattle.tb_report.proofs.values.intervals_of.Given as goal

-- the intervals so far were copied
abbrev pub invariant-loop-at : goal.invariant-loop-at
invariant-loop-at l = record {
  room : length l.intervals ≡ 7;
  copied : take l.at l.intervals ≡ map (λ c. c.interval) (take l.at l.cases);
}
