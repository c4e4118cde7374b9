use Rattle.std.specs.List.Sorted.{IsStrictlyIncreasing}
use Rattle.tb_grid.specs.Level.{IsHalvedTimes}
use Rattle.tb_grid.proofs.level.graded.Given as goal

abbrev pub invariant-loop-time : goal.invariant-loop-time
invariant-loop-time l = record {
  rising : IsStrictlyIncreasing l.lines.items;
  halved : IsHalvedTimes l._time l.initial.lines.items l.lines.items;
}
