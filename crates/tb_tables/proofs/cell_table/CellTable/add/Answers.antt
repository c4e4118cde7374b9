use Rattle.std.proofs.Common.{◌≡◌, sym, subst, ap, ◌∙◌, ◌+◌, ℕ, List, [], ◌∷◌, ◌++◌}
use Rattle.tb_places.specs.Inverse.{cell_place}
use Rattle.tb_grid.specs.Grid.{counts_of}
use Rattle.tb_geometry.specs.Grids.{mesh_on}
use Rattle.tb_relax.specs.declared.table.CellWeights.{CellWeights}
use Rattle.tb_tables.specs.MeshRows.{IsCellRow}
use Rattle.tb_tables.specs.Sharing.{AreRows}
use Rattle.tb_tables.specs.Sorts.{HasSort}
use Rattle.tb_tables.proofs.Sharing.{one_more}
use Rattle.tb_tables.proofs.cell_table.CellTable.add.Goals as goal

pub returns : goal.returns
returns c =
    let e : c.push.new.self.items ≡ c.args.self.now.numbers.items ++ c.in_ok-number.number ∷ [] = c.in_ok-push.ensures.items ∙ ap (λ (l : List ℕ). l ++ c.in_ok-number.number ∷ []) c.in_ok-number.ensures.numbers in
    record {
      sorted = c.in_ok-number.ensures.sorted;
      next = subst (λ (l : List ℕ). AreRows CellWeights (λ n. IsCellRow (mesh_on c.args.body.now c.args.grid.now) (cell_place (counts_of c.args.grid.now) n)) (c.args.cell.0 + 1) c.place.new.self.rows.items l) (sym e)
          (one_more CellWeights (λ n. IsCellRow (mesh_on c.args.body.now c.args.grid.now) (cell_place (counts_of c.args.grid.now) n)) (HasSort c.cell_sort-sort.result) c.args.cell.0 c.args.self.now.rows.items c.place.new.self.rows.items c.args.self.now.numbers.items c.in_ok-number.number
          c.requires.so_far c.in_ok-number.ensures.placed c.cell_sort-sort.ensures.rows);
    }
