use Rattle.tb_weighted.proofs.FlowBridge.{flow_form_is}
use Rattle.tb_weighted.proofs.FlowMoves.{loop_move}
use Rattle.tb_weighted.proofs.laws.flow_forms_are_energies.Goals as goal

pub returns-clause-energy : goal.returns-clause-energy
returns-clause-energy c = flow_form_is

pub returns-clause-moves : goal.returns-clause-moves
returns-clause-moves c = λ m inside f counts axis e old new form kinds move. loop_move m inside f counts axis e old new form kinds move
