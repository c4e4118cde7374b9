use Rattle.tb_rounds.proofs.Rounds.{flux_taken}
use Rattle.tb_rounds.proofs.flux.flux_round.Goals as goal

pub returns-then-offer_again-clause-round : goal.returns-then-offer_again-clause-round
returns-then-offer_again-clause-round c = flux_taken _ _ c.if-offer_again.ensures.offer
