use Rattle.tb_cycle_moves.proofs.OneMove.{one_move}
use Rattle.tb_cycle_moves.proofs.laws.cycle_move_is_one.Goals as goal

pub returns : goal.returns
returns c = λ m inside face outlet distance old v w outlets distances flux first second. one_move m inside face outlet distance outlets distances old flux v w first second
