use Rattle.tb_geometry.proofs.Exclusions.{accepted_answer, accepted_has_none, fault_answer, one_fault}
use Rattle.tb_geometry.proofs.Steps.{boxes_in_limits}
use Rattle.tb_geometry.proofs.laws.there_is_one_answer.Goals as goal

pub returns-clause-one_fault : goal.returns-clause-one_fault
returns-clause-one_fault c = λ d fault other limits. one_fault d fault other (boxes_in_limits d limits)

pub returns-clause-none_if_accepted : goal.returns-clause-none_if_accepted
returns-clause-none_if_accepted c = λ d fault limits. accepted_has_none d fault (boxes_in_limits d limits)

pub returns-clause-accepted : goal.returns-clause-accepted
returns-clause-accepted c = λ d result limits. accepted_answer d result (boxes_in_limits d limits)

pub returns-clause-refused : goal.returns-clause-refused
returns-clause-refused c = λ d fault result limits. fault_answer d fault result (boxes_in_limits d limits)
