use Rattle.tb_costs.proofs.Ends.{field_offered, flux_offered}
use Rattle.tb_costs.proofs.offers_keep.Goals as goal

pub returns-clause-field : goal.returns-clause-field
returns-clause-field c = field_offered

pub returns-clause-flux : goal.returns-clause-flux
returns-clause-flux c = flux_offered
