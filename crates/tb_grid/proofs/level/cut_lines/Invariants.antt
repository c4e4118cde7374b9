use Rattle.std.proofs.Common.{◌≡◌, ◌++◌, drop}
use Rattle.tb_grid.proofs.CutLines.{cut_lines}
use Rattle.tb_grid.proofs.level.cut_lines.Given as goal

abbrev pub invariant-loop-i : goal.invariant-loop-i
invariant-loop-i l = l.cut.items ++ cut_lines l.grade (drop l.i l.lines) ≡ cut_lines l.grade l.lines
