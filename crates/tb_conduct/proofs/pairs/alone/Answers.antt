use Rattle.std.proofs.Common.{◌≡◌, ◌*◌, ◌%◌, ◌^◌, arith}
use Rattle.std.proofs.lemmas.Nat.{one_shl, pow_below}
use Rattle.tb_conduct.proofs.pairs.alone.Goals as goal

pub returns-clause-set : goal.returns-clause-set
returns-clause-set c =
    let value : 1 * 2 ^ c.args.i % 256 ≡ 2 ^ c.args.i = one_shl c.args.i 8 (omega arith) in
    rw value (pow_below c.args.i c.args.environments c.requires.known)
