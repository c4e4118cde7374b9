use Rattle.tb_relax.proofs.RoundFlows.{round_outflow}
use Rattle.tb_relax.proofs.laws.loops_lose_nothing.Goals as goal

pub returns : goal.returns
returns c = round_outflow
