use Rattle.tb_walk.proofs.Meshes.{openings, none, first}
use Rattle.tb_walk.proofs.laws.openings_are_surfaces.Goals as goal

pub returns-clause-opening : goal.returns-clause-opening
returns-clause-opening c = openings

pub returns-clause-none : goal.returns-clause-none
returns-clause-none c = none

pub returns-clause-first : goal.returns-clause-first
returns-clause-first c = first
