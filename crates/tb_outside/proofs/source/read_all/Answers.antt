use Rattle.std.proofs.Common.{rules}
use Rattle.tb_outside.proofs.Known.{takes_at_most}
use Rattle.tb_outside.proofs.source.read_all.Goals as goal

pub returns-in_err-read_more-clause-taken : goal.returns-in_err-read_more-clause-taken
returns-in_err-read_more-clause-taken g c =
    takes_at_most _ _ _ _ _ _ c.loop-chunk.invariant.so_far c.read_more.ensures.taken (search rules)
