use Rattle.tb_report.specs.Texts.{factor_line}
use Rattle.tb_report.proofs.Gathering.{gathers_joined}
use Rattle.tb_report.proofs.report.put_factors_of.Goals as goal

pub loop-e-preserved : goal.loop-e-preserved
loop-e-preserved g c = gathers_joined (factor_line c.args.detail.now c.args.case.now) c.loop-e.e c.loop-e.invariant c.put_factor.ensures
