use Rattle.tb_places.specs.Inverse.{cell_place}
use Rattle.tb_grid.specs.Grid.{counts_of}
use Rattle.tb_geometry.specs.Grids.{mesh_on}
use Rattle.tb_relax.specs.declared.table.CellWeights.{CellWeights}
use Rattle.tb_tables.specs.MeshRows.{IsCellRow}
use Rattle.tb_tables.specs.Sharing.{AreRows, AreSorted}
use Rattle.tb_tables.specs.declared.sorts.CellSort.{CellSort}
use Rattle.tb_tables.specs.Sorts.{HasSort}
use Rattle.tb_tables.proofs.cell_table.CellTable.fill.Given as goal

abbrev pub invariant-loop-cell : goal.invariant-loop-cell
invariant-loop-cell l = record {
  rows : AreRows CellWeights (λ c. IsCellRow (mesh_on l.body l.grid) (cell_place (counts_of l.grid) c)) l.cell l.self.rows.items l.self.numbers.items;
  sorted : AreSorted CellWeights CellSort HasSort l.self.rows.items l.known.sorts.items;
}
