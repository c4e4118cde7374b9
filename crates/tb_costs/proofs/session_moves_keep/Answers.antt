use Rattle.tb_costs.proofs.Moves.{by_moves, pass_has}
use Rattle.tb_costs.proofs.session_moves_keep.Goals as goal

pub returns-clause-admissible : goal.returns-clause-admissible
returns-clause-admissible c = λ m inside moves old new told filled all made h. (by_moves m inside filled moves old new told all made h).admissible

pub returns-clause-field : goal.returns-clause-field
returns-clause-field c = λ m inside moves old new told filled all made h. (by_moves m inside filled moves old new told all made h).field

pub returns-clause-flux : goal.returns-clause-flux
returns-clause-flux c = λ m inside moves old new told filled all made h. (by_moves m inside filled moves old new told all made h).flux

pub returns-clause-pass : goal.returns-clause-pass
returns-clause-pass c = pass_has
