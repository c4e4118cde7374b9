use Rattle.std.proofs.Common.{arith}
use Rattle.tb_grid.proofs.Through.{two_lines}
use Rattle.tb_grid.proofs.axis.Axis.through.Goals as goal

pub invariant_of-result : goal.invariant_of-result
invariant_of-result c =
    let through = c.lines_through.ensures.through in
    let least = two_lines _ _ through c.requires.two in
    record { least = least; most = omega arith; rising = through.rising }
