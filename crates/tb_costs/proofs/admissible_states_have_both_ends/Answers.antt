use Rattle.tb_costs.proofs.Ends.{are_flows, are_temperatures, fits_faces, fits_nodes, keeps_balance, loss_fits, not_past_limit}
use Rattle.tb_costs.proofs.admissible_states_have_both_ends.Goals as goal

pub returns-clause-loss : goal.returns-clause-loss
returns-clause-loss c = loss_fits

pub returns-clause-not_past_limit : goal.returns-clause-not_past_limit
returns-clause-not_past_limit c = not_past_limit

pub returns-clause-balanced : goal.returns-clause-balanced
returns-clause-balanced c = keeps_balance

pub returns-clause-nodes : goal.returns-clause-nodes
returns-clause-nodes c = λ d g inside s h. fits_nodes d g s.field h.field

pub returns-clause-temperatures : goal.returns-clause-temperatures
returns-clause-temperatures c = λ d g inside s h. are_temperatures d g s.field h.field

pub returns-clause-faces : goal.returns-clause-faces
returns-clause-faces c = λ d g inside s h. fits_faces d g s.flux h.flux

pub returns-clause-flows : goal.returns-clause-flows
returns-clause-flows c = λ d g inside s h. are_flows d g s.flux h.flux
