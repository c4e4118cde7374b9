use Rattle.tb_weighted.proofs.Bridge.{form_is, node_move}
use Rattle.tb_weighted.proofs.laws.forms_are_energies.Goals as goal

pub returns-clause-energy : goal.returns-clause-energy
returns-clause-energy c = form_is

pub returns-clause-moves : goal.returns-clause-moves
returns-clause-moves c = node_move
