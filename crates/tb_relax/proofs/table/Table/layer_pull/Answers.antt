use Rattle.tb_weighted.proofs.Pulls.{sum_of}
use Rattle.tb_relax.proofs.table.Table.layer_pull.Goals as goal

pub returns-clause-rate : goal.returns-clause-rate
returns-clause-rate c = sum_of _ _ _ _ _ c.both.ensures.rate c.line_below-below.ensures.rate c.line_above-above.ensures.rate

pub returns-clause-slope : goal.returns-clause-slope
returns-clause-slope c = sum_of _ _ _ _ _ c.both.ensures.slope c.line_below-below.ensures.slope c.line_above-above.ensures.slope
