use Rattle.tb_grid.proofs.Searches.{up_to_found, up_to_gap}
use Rattle.tb_grid.proofs.axis.lines_up_to.Goals as goal

pub returns-in-Ok : goal.returns-in-Ok
returns-in-Ok c = up_to_found _ _ _ c.requires c.in-Ok.ensures.position

pub returns-in-Err : goal.returns-in-Err
returns-in-Err c = up_to_gap _ _ _ c.requires c.in-Err.ensures.position
