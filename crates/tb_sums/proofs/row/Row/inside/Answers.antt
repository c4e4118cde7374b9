use Rattle.tb_sums.proofs.Runs.{inside_of}
use Rattle.tb_sums.proofs.row.Row.inside.Goals as goal

pub returns-clause-value : goal.returns-clause-value
returns-clause-value c = inside_of c.args.self.now c.args.lambda c.args.i _ _ _ c.interval.ensures c.corners.ensures.exact c.solid_energy.ensures.value
