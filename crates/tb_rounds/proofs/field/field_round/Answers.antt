use Rattle.tb_rounds.proofs.Rounds.{field_taken}
use Rattle.tb_rounds.proofs.field.field_round.Goals as goal

pub returns-then-offer_candidate-clause-round : goal.returns-then-offer_candidate-clause-round
returns-then-offer_candidate-clause-round c = field_taken _ _ c.if-offer_candidate.ensures.offer
