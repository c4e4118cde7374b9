use Rattle.std.proofs.Common.{arith}
use Rattle.tb_report.specs.Limits.{half_end}
use Rattle.tb_report.proofs.values.pair_of.Goals as goal

pub returns-clause-size : goal.returns-clause-size
returns-clause-size c =
    let within = c.pair.ensures.size half_end c.requires.intervals.sizes in
    let low = within.low in
    let high = within.high in
    record { low = omega (arith, low); high = omega (arith, high) }
