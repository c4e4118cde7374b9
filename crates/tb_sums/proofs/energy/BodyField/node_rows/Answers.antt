use Rattle.std.proofs.Common.{arith}
use Rattle.tb_places.specs.declared.AxisName.TheVariants.{Y, Z}
use Rattle.tb_rows.proofs.Grids.{few_cells}
use Rattle.tb_sums.proofs.energy.BodyField.node_rows.Goals as goal

pub overflow_add-j : goal.overflow_add-j
overflow_add-j c = let few = few_cells c.args.self.now.rows.grid.now Y c.requires.fits.rows.grid in omega (arith, few, c.requires.row)

pub overflow_add-k : goal.overflow_add-k
overflow_add-k c = let few = few_cells c.args.self.now.rows.grid.now Z c.requires.fits.rows.grid in omega (arith, few, c.requires.layer)

pub overflow_add-j-2 : goal.overflow_add-j-2
overflow_add-j-2 c = let few = few_cells c.args.self.now.rows.grid.now Y c.requires.fits.rows.grid in omega (arith, few, c.requires.row)

pub overflow_add-k-2 : goal.overflow_add-k-2
overflow_add-k-2 c = let few = few_cells c.args.self.now.rows.grid.now Z c.requires.fits.rows.grid in omega (arith, few, c.requires.layer)
