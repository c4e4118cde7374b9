use Rattle.tb_places.proofs.Cells.{cell_number_below}
use Rattle.tb_grid.specs.Views.{along_axes}
use Rattle.tb_grid.proofs.counts.CellCounts.cell_number.Goals as goal

pub returns-clause-within : goal.returns-clause-within
returns-clause-within c = cell_number_below (along_axes c.args.self) c.args.place c.requires
