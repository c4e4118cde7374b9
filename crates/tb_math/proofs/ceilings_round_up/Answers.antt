-- Each law is a lemma of its own.
use Rattle.tb_math.proofs.CeilingLaws.{ceiling-above, ceiling-below, ceiling-unique, ceiling-least}
use Rattle.tb_math.proofs.ceilings_round_up.Goals as goal

pub returns-clause-above : goal.returns-clause-above
returns-clause-above c = ceiling-above

pub returns-clause-below : goal.returns-clause-below
returns-clause-below c = ceiling-below

pub returns-clause-unique : goal.returns-clause-unique
returns-clause-unique c = ceiling-unique

pub returns-clause-least : goal.returns-clause-least
returns-clause-least c = ceiling-least
