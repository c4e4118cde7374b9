use Rattle.std.proofs.Common.{append_assoc, arith}
use Rattle.tb_grid.proofs.CutSteps.{low_more}
use Rattle.tb_grid.proofs.level.+push_low_cuts.Goals as goal

pub returns : goal.returns
returns t c =
    let more = low_more c.args.most c.args.p c.args.distance (omega arith) (omega arith) in
    rw (c.in_ok-push.ensures.items, c.in_ok-push_low_cuts.ensures, more, append_assoc)
