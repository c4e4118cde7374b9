use Rattle.tb_duality.proofs.EndLaws.{upper_end_near, lower_end_below, lower_end_near}
use Rattle.tb_duality.proofs.ends_round_outwards.Goals as goal

pub returns-clause-upper : goal.returns-clause-upper
returns-clause-upper c = upper_end_near

pub returns-clause-lower : goal.returns-clause-lower
returns-clause-lower c = lower_end_below

pub returns-clause-lower_near : goal.returns-clause-lower_near
returns-clause-lower_near c = lower_end_near
