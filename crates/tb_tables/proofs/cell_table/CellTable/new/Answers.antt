use Rattle.std.proofs.Common.{sym, subst, List}
use Rattle.tb_places.specs.Inverse.{cell_place}
use Rattle.tb_places.specs.Places.{cell_count}
use Rattle.tb_grid.specs.Grid.{counts_of}
use Rattle.tb_geometry.specs.Grids.{mesh_on}
use Rattle.tb_relax.specs.declared.table.CellWeights.{CellWeights}
use Rattle.tb_tables.specs.MeshRows.{IsCellRow}
use Rattle.tb_tables.specs.Sharing.{AreRows}
use Rattle.tb_tables.proofs.cell_table.CellTable.new.Goals as goal

pub returns : goal.returns
returns c = subst (λ (rows : List CellWeights). AreRows CellWeights (λ n. IsCellRow (mesh_on c.args.body.now c.args.grid.now) (cell_place (counts_of c.args.grid.now) n)) (cell_count (counts_of c.args.grid.now)) rows c.fill.new.self.numbers.items)
    (sym c.shrink_to_fit.ensures.items) c.in_ok-fill.ensures.all
