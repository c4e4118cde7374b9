use Rattle.tb_relax.proofs.Balance.{keeps_balance, pass_keeps}
use Rattle.tb_relax.proofs.laws.passes_keep_balance.Goals as goal

pub returns-clause-edge : goal.returns-clause-edge
returns-clause-edge c = λ m inside axis e old new filled edge move b. keeps_balance m inside axis e old new move edge filled b

pub returns-clause-pass : goal.returns-clause-pass
returns-clause-pass c = λ m inside old new told filled made b. pass_keeps m inside filled old new told made b
