use Rattle.std.proofs.Common.{arith}
use Rattle.tb_places.specs.declared.AxisName.TheVariants.{Y, Z}
use Rattle.tb_rows.proofs.Grids.{few_cells}
use Rattle.tb_rows.proofs.rows.Rows.around.Goals as goal

pub overflow_add-j : goal.overflow_add-j
overflow_add-j c = let few = few_cells c.args.self.now.grid.now Y c.requires.rows.grid in omega (arith, few, c.requires.row)

pub overflow_add-k : goal.overflow_add-k
overflow_add-k c = let few = few_cells c.args.self.now.grid.now Z c.requires.rows.grid in omega (arith, few, c.requires.layer)
