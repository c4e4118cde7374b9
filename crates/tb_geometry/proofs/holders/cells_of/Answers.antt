use Rattle.tb_places.specs.declared.AxisName.TheVariants.{X, Y, Z}
use Rattle.tb_geometry.proofs.holders.cells_of.Goals as goal

pub line_at-requires : goal.line_at-requires
line_at-requires c = c.requires.lows X

pub line_at-requires-2 : goal.line_at-requires-2
line_at-requires-2 c = c.requires.lows Y

pub line_at-requires-3 : goal.line_at-requires-3
line_at-requires-3 c = c.requires.lows Z

pub line_at-requires-4 : goal.line_at-requires-4
line_at-requires-4 c = c.requires.highs X

pub line_at-requires-5 : goal.line_at-requires-5
line_at-requires-5 c = c.requires.highs Y

pub line_at-requires-6 : goal.line_at-requires-6
line_at-requires-6 c = c.requires.highs Z
