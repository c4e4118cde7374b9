-- The table that is lent of a mesh's weights.
use Rattle.std.proofs.Common.{◌≡◌, refl, sym, ap, ◌∙◌, subst, ℕ, List}
use Rattle.tb_places.specs.Inverse.{cell_place, face_place}
use Rattle.tb_places.specs.Places.{Counts, cell_count, face_count}
use Rattle.tb_places.proofs.ByAxis.{same_by_axis}
use Rattle.tb_detail.specs.declared.Detail.{Detail}
use Rattle.tb_grid.specs.Grid.{Axes, counts_of}
use Rattle.tb_grid.specs.Axis.{interval_count}
use Rattle.tb_grid.specs.Views.{along_axes}
use Rattle.tb_model.specs.Energy.{Case}
use Rattle.tb_model.specs.Mesh.{Mesh}
use Rattle.tb_geometry.specs.Grids.{mesh_on}
use Rattle.tb_relax.specs.declared.table.CellWeights.{CellWeights}
use Rattle.tb_relax.specs.declared.table.FaceWeight.{FaceWeight}
use Rattle.tb_relax.specs.declared.table.Table.{Table}
use Rattle.tb_relax.specs.Passes.{IsTableOf}
use Rattle.tb_relax.specs.Tables.{IsTable, table_counts}
use Rattle.tb_tables.specs.declared.whole.Tables.{Tables}
use Rattle.tb_tables.specs.MeshRows.{IsCellRow, IsFaceRow}
use Rattle.tb_tables.specs.Sharing.{AreRows}
use Rattle.tb_tables.specs.Whole.{AreTablesOf}
use Rattle.tb_tables.proofs.Tables.{table_of}

-- other lists that are the same, and another count of the same things
same_rows : (A : Type 0) (IsRow : Counts → ℕ → A → Type 0) (n n' : Counts) (count : Counts → ℕ) (rows rows' : List A) (numbers numbers' : List ℕ) → n' ≡ n → rows' ≡ rows → numbers' ≡ numbers → AreRows A (IsRow n) (count n) rows numbers → AreRows A (IsRow n') (count n') rows' numbers'
same_rows A IsRow n n' count rows rows' numbers numbers' e f g are =
    subst (λ (z : Counts). AreRows A (IsRow z) (count z) rows' numbers') (sym e)
    (subst (λ (z : List A). AreRows A (IsRow n) (count n) z numbers') (sym f)
    (subst (λ (z : List ℕ). AreRows A (IsRow n) (count n) rows z) (sym g) are))

module _ (m : Mesh) (inside : Case) (t : Tables) (r : Table) (of : AreTablesOf m inside t) (e : r.counts ≡ t.counts) (cr : r.cell_rows.now ≡ t.cells.rows.items) (cn : r.cells.now ≡ t.cells.numbers.items) (fr : r.face_rows.now ≡ t.faces.rows.items) (fn : r.faces.now ≡ t.faces.numbers.items) where
  pub lent_counts : table_counts r ≡ m.cells
  lent_counts = ap along_axes e ∙ of.counts

  cells : AreRows CellWeights (λ c. IsCellRow m (cell_place (table_counts r) c)) (cell_count (table_counts r)) r.cell_rows.now r.cells.now
  cells = same_rows CellWeights (λ n c. IsCellRow m (cell_place n c)) m.cells (table_counts r) cell_count t.cells.rows.items r.cell_rows.now t.cells.numbers.items r.cells.now lent_counts cr cn of.cells

  faces : AreRows FaceWeight (λ f. IsFaceRow m inside (face_place (table_counts r) f)) (face_count (table_counts r)) r.face_rows.now r.faces.now
  faces = same_rows FaceWeight (λ n f. IsFaceRow m inside (face_place n f)) m.cells (table_counts r) face_count t.faces.rows.items r.face_rows.now t.faces.numbers.items r.faces.now lent_counts fr fn of.faces

  pub lent_table : IsTable r
  lent_table = record { cells = cells.counted; faces = faces.counted; cell_rows = cells.within; face_rows = faces.within }

  pub lent_of : IsTableOf m inside r
  lent_of = table_of m inside r lent_table lent_counts (record { cells = cells.each; faces = faces.each })

-- the rows of all cells and faces of a grid are those of the mesh
module _ (d : Detail) (g : Axes) (inside : Case) (t : Tables) where
  same_counts : counts_of g ≡ (mesh_on d g).cells
  same_counts = same_by_axis _ _ _ _ refl refl refl

  pub tables_of : t.counts.x ≡ interval_count g.x → t.counts.y ≡ interval_count g.y → t.counts.z ≡ interval_count g.z
      → AreRows CellWeights (λ c. IsCellRow (mesh_on d g) (cell_place (counts_of g) c)) (cell_count (counts_of g)) t.cells.rows.items t.cells.numbers.items
      → AreRows FaceWeight (λ f. IsFaceRow (mesh_on d g) inside (face_place (counts_of g) f)) (face_count (counts_of g)) t.faces.rows.items t.faces.numbers.items
      → AreTablesOf (mesh_on d g) inside t
  tables_of x y z are_cells are_faces = record {
    counts = same_by_axis _ _ _ _ x y z ∙ same_counts;
    cells = same_rows CellWeights (λ n c. IsCellRow (mesh_on d g) (cell_place n c)) (counts_of g) (mesh_on d g).cells cell_count _ _ _ _ (sym same_counts) refl refl are_cells;
    faces = same_rows FaceWeight (λ n f. IsFaceRow (mesh_on d g) inside (face_place n f)) (counts_of g) (mesh_on d g).cells face_count _ _ _ _ (sym same_counts) refl refl are_faces;
  }
