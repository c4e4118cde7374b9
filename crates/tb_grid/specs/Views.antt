-- What contracts see in the type of this crate that keeps numbers of cells along x, y and z.
use Rattle.tb_places.specs.Places.{Counts, by_axis}
use Rattle.tb_grid.specs.declared.counts.CellCounts.{CellCounts}

abbrev pub along_axes : CellCounts → Counts
along_axes c = by_axis c.x c.y c.z
