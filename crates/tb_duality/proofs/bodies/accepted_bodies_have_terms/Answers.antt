use Rattle.tb_duality.proofs.TermCounts.{some_terms}
use Rattle.tb_duality.proofs.bodies.accepted_bodies_have_terms.Goals as goal

pub returns : goal.returns
returns c = some_terms
