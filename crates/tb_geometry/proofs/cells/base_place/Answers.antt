use Rattle.tb_places.specs.declared.AxisName.TheVariants.{X, Y, Z}
use Rattle.tb_geometry.proofs.cells.base_place.Goals as goal

pub base_interval-requires-clause-between : goal.base_interval-requires-clause-between
base_interval-requires-clause-between c = rw (c.axis.ensures.axis, c.axis-2.ensures.axis) (c.requires.between X)

pub base_interval-requires-2-clause-between : goal.base_interval-requires-2-clause-between
base_interval-requires-2-clause-between c = rw (c.axis-3.ensures.axis, c.axis-4.ensures.axis) (c.requires.between Y)

pub base_interval-requires-3-clause-between : goal.base_interval-requires-3-clause-between
base_interval-requires-3-clause-between c = rw (c.axis-5.ensures.axis, c.axis-6.ensures.axis) (c.requires.between Z)
