use Rattle.std.proofs.Common.{◌≡◌, ◌+◌, drop}
use Rattle.tb_grid.proofs.CutLines.{level_count}
use Rattle.tb_grid.proofs.level.level_count.Given as goal

-- what is counted and what is left are all lines, and the first of those that are left once more
abbrev pub invariant-loop-i : goal.invariant-loop-i
invariant-loop-i l = l.count + level_count l.halve l.grade (drop l.i l.axis) ≡ 1 + level_count l.halve l.grade l.axis
