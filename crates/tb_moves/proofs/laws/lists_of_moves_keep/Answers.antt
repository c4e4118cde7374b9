use Rattle.tb_weighted.specs.Moves.{State}
use Rattle.tb_weighted.proofs.SequenceLaws.{then}
use Rattle.tb_costs.proofs.Filling.{body_fills}
use Rattle.tb_geometry.specs.Grids.{mesh_on}
use Rattle.tb_moves.specs.declared.moves.Move.{Move}
use Rattle.tb_moves.specs.Moves.{IsMove}
use Rattle.tb_moves.proofs.Leaving.{list_leaves}
use Rattle.tb_moves.proofs.laws.lists_of_moves_keep.Goals as goal

pub returns-clause-joined : goal.returns-clause-joined
returns-clause-joined c = λ m inside first second old mid new told also. then State Move (IsMove m inside) first second old mid new told also

pub returns-clause-keeps : goal.returns-clause-keeps
returns-clause-keeps c = λ d g inside moves old new told accepted carries all made h. list_leaves (mesh_on d g) inside (body_fills d g accepted carries) moves old new told all made h
