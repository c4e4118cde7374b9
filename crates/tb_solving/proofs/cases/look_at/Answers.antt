use Rattle.tb_places.specs.declared.AxisName.TheVariants.{X, Y, Z}
use Rattle.tb_solving.proofs.Right.{on_base}
use Rattle.tb_solving.proofs.cases.look_at.Goals as goal

pub returns-clause-on_x : goal.returns-clause-on_x
returns-clause-on_x c = on_base c.args.body.now c.base-base.result.now c.args.grid.now c.base-base.ensures.grid c.cells-base_cells.ensures.grid c.cells-cells.ensures.grid c.requires X

pub returns-clause-on_y : goal.returns-clause-on_y
returns-clause-on_y c = on_base c.args.body.now c.base-base.result.now c.args.grid.now c.base-base.ensures.grid c.cells-base_cells.ensures.grid c.cells-cells.ensures.grid c.requires Y

pub returns-clause-on_z : goal.returns-clause-on_z
returns-clause-on_z c = on_base c.args.body.now c.base-base.result.now c.args.grid.now c.base-base.ensures.grid c.cells-base_cells.ensures.grid c.cells-cells.ensures.grid c.requires Z
