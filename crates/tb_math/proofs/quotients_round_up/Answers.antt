-- Each law is a lemma of its own.
use Rattle.tb_math.proofs.CeilingLaws.{ratio-rounds, ratio-ceiling}
use Rattle.tb_math.proofs.quotients_round_up.Goals as goal

pub returns-clause-rounds : goal.returns-clause-rounds
returns-clause-rounds c = ratio-rounds

pub returns-clause-unique : goal.returns-clause-unique
returns-clause-unique c = ratio-ceiling
