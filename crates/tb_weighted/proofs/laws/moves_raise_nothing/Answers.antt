use Rattle.tb_weighted.proofs.Lowering.{loop_lowers, node_lowers}
use Rattle.tb_weighted.proofs.laws.moves_raise_nothing.Goals as goal

pub returns-clause-node : goal.returns-clause-node
returns-clause-node c = node_lowers

pub returns-clause-edge : goal.returns-clause-edge
returns-clause-edge c = loop_lowers
