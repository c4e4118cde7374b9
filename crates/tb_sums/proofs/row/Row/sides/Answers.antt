use Rattle.tb_sums.proofs.Runs.{sides_of}
use Rattle.tb_sums.proofs.row.Row.sides.Goals as goal

pub returns-clause-value : goal.returns-clause-value
returns-clause-value c =
    sides_of c.args.self.now c.args.run.now c.args.i _ _ _ _ _ _ _ c.interval.ensures c.corners-t.ensures.exact c.low_at.ensures.value c.high_at.ensures.value
    c.sides_x-x.ensures.value c.sides_y-y.ensures.value c.sides_z-z.ensures.value
