use Rattle.tb_geometry.proofs.Covers.{corner_from_cube, cube_from_corner}
use Rattle.tb_geometry.proofs.laws.boxes_hold_base_cells_whole.Goals as goal

pub returns : goal.returns
returns c = λ boxes b p x y z u v w there one other holds. cube_from_corner boxes b p u v w there other (corner_from_cube boxes b p x y z there one holds)
