use Rattle.std.proofs.Common.{suc, ◌^◌, ◌≤◌, arith}
use Rattle.std.proofs.Math.Pow.{pow_mono}
use Rattle.tb_conduct.proofs.pairs.together.Goals as goal

pub returns-clause-set : goal.returns-clause-set
returns-clause-set c =
    let up : 2 ^ suc c.args.j ≤ 2 ^ c.args.environments = pow_mono (omega arith) in
    omega arith
