use Rattle.tb_walk.proofs.Together.{all_marked, all_solid, first_at_corner}
use Rattle.tb_walk.proofs.laws.enclosed_cells_fill_the_grid.Goals as goal

pub returns-clause-marked : goal.returns-clause-marked
returns-clause-marked c = all_marked

pub returns-clause-solid : goal.returns-clause-solid
returns-clause-solid c = all_solid

pub returns-clause-first : goal.returns-clause-first
returns-clause-first c = first_at_corner
