use Rattle.std.proofs.Common.{arith}
use Rattle.std.proofs.lemmas.Int.{ints}
use Rattle.tb_relax.proofs.pull.weigh.Goals as goal

pub returns-clause-value : goal.returns-clause-value
returns-clause-value c =
    let a = c.twice_and.ensures in
    let b = c.twice_and-2.ensures in
    let d = c.twice_and-3.ensures in
    omega (arith, ints)
