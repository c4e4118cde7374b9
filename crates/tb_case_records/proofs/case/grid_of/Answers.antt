use Rattle.tb_places.specs.declared.AxisName.TheVariants.{X, Y, Z}
use Rattle.tb_case_records.proofs.case.grid_of.Goals as goal

pub axis_of-requires : goal.axis_of-requires
axis_of-requires c = c.requires.axes X

pub axis_of-requires-2 : goal.axis_of-requires-2
axis_of-requires-2 c = c.requires.axes Y

pub axis_of-requires-3 : goal.axis_of-requires-3
axis_of-requires-3 c = c.requires.axes Z
