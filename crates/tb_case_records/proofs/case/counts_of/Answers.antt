use Rattle.std.proofs.Common.{arith}
use Rattle.tb_places.specs.declared.AxisName.TheVariants.{X, Y, Z}
use Rattle.tb_case_records.proofs.case.counts_of.Goals as goal

pub returns-clause-few : goal.returns-clause-few
returns-clause-few c = (
  omega (arith, c.counts.ensures.on_x, (c.counts.ensures.grid.axes X).most),
  (omega (arith, c.counts.ensures.on_y, (c.counts.ensures.grid.axes Y).most), omega (arith, c.counts.ensures.on_z, (c.counts.ensures.grid.axes Z).most)),
)
