-- A table with the rows of a mesh has the mesh's forms.
use Rattle.std.proofs.Common.{◌≡◌, sym, ap, ◌∙◌, subst, ℕ, ◌^◌, ◌<◌, ◌≤◌, Bool, false, map, length, get_or, arith}
use Rattle.std.specs.Prelude.{if◌then◌else◌, slice_index}
use Rattle.std.proofs.lemmas.List.{get_or-map}
use lib.IntN.{pos}
use Rattle.tb_places.specs.declared.AxisName.{AxisName}
use Rattle.tb_places.specs.declared.AxisName.TheVariants.{X, Y, Z}
use Rattle.tb_places.specs.declared.FacePlace.{FacePlace}
use Rattle.tb_places.specs.declared.Place.{Place}
use Rattle.tb_places.specs.Along.{place_along}
use Rattle.tb_places.specs.Places.{Counts, IsCell, IsFace, cell_number, face_number, place_at, second, third}
use Rattle.tb_places.proofs.Cells.{cell_number_below, cell_place_of_number}
use Rattle.tb_places.proofs.Faces.{face_number_below, face_place_of_number}
use Rattle.tb_model.specs.Energy.{Case}
use Rattle.tb_model.specs.Mesh.{Mesh}
use Rattle.tb_weighted.specs.OnMesh.{mesh_cell, mesh_face, mesh_flux_cell, mesh_flux_face, mesh_level, mesh_source}
use Rattle.tb_relax.specs.declared.table.CellWeights.{CellWeights}
use Rattle.tb_relax.specs.declared.table.FaceWeight.{FaceWeight}
use Rattle.tb_relax.specs.declared.table.Table.{Table}
use Rattle.tb_relax.specs.Passes.{IsTableOf}
use Rattle.tb_relax.specs.Tables.{IsTable, cell_flux_at, cell_weight_at, field_forms, flux_forms, flux_weight_along, source_of, table_counts, weight_along}
use Rattle.tb_tables.specs.Filled.{HasRowsOf}
use Rattle.tb_tables.specs.MeshRows.{IsCellRow, IsFaceRow}

cell_along : (n : Counts) (a : AxisName) (i j k : ℕ) → i < n a → j < n (second a) → k < n (third a) → IsCell n (place_along a i j k)
cell_along n X i j k p q r = (p, q, r)
cell_along n Y i j k p q r = (q, p, r)
cell_along n Z i j k p q r = (q, r, p)

face_along : (n : Counts) (a : AxisName) (i j k : ℕ) → i ≤ n a → j < n (second a) → k < n (third a) → IsFace n a (place_along a i j k)
face_along n X i j k p q r = (p, q, r)
face_along n Y i j k p q r = (q, p, r)
face_along n Z i j k p q r = (q, r, p)

-- what is read past the ends of rows
no_cell : CellWeights
no_cell = record { x = 0; y = 0; z = 0; flux_x = 0; flux_y = 0; flux_z = 0; x_small = omega arith; y_small = omega arith; z_small = omega arith }

no_face : FaceWeight
no_face = record { field = 0; flux = 0; inside = false; low_is_air = false; counts = false; small = omega arith }

module _ (m : Mesh) (inside : Case) (t : Table) (table : IsTable t) (e : table_counts t ≡ m.cells) (rows : HasRowsOf m inside (table_counts t) t) where
  abbrev n : Counts
  n = table_counts t

  abbrev cell_row : Place → CellWeights
  cell_row p = get_or t.cell_rows.now (slice_index t.cells.now (cell_number n p)) no_cell

  abbrev face_row : AxisName → Place → FaceWeight
  face_row a p = get_or t.face_rows.now (slice_index t.faces.now (face_number n a p)) no_face

  cell_within : (p : Place) → IsCell n p → slice_index t.cells.now (cell_number n p) < length t.cell_rows.now
  cell_within p h = table.cell_rows (cell_number n p) 0 (let b = cell_number_below n p h in omega (arith, table.cells))

  face_within : (a : AxisName) (p : Place) → IsFace n a p → slice_index t.faces.now (face_number n a p) < length t.face_rows.now
  face_within a p h = table.face_rows (face_number n a p) 0 (let b = face_number_below n a p h in omega (arith, table.faces))

  cell_has : (p : Place) → IsCell n p → IsCellRow m p (cell_row p)
  cell_has p h = subst (λ (q : Place). IsCellRow m q (cell_row p)) (cell_place_of_number n p h) (rows.cells (cell_number n p) no_cell (cell_number_below n p h))

  face_has : (a : AxisName) (p : Place) → IsFace n a p → IsFaceRow m inside (record { axis = a; place = p }) (face_row a p)
  face_has a p h = subst (λ (q : FacePlace). IsFaceRow m inside q (face_row a p)) (face_place_of_number n (record { axis = a; place = p }) h) (rows.faces (face_number n a p) no_face (face_number_below n a p h))

  field_cell : (a : AxisName) (i j k : ℕ) → i < n a → j < n (second a) → k < n (third a) → pos (cell_weight_at t a i j k) ≡ mesh_cell m a i j k
  field_cell a i j k p q r = ap pos (get_or-map (λ w. weight_along w a) t.cell_rows.now (slice_index t.cells.now (cell_number n (place_along a i j k))) no_cell 0 (cell_within (place_along a i j k) (cell_along n a i j k p q r))) ∙ seen a i j k (cell_has (place_along a i j k) (cell_along n a i j k p q r))
    where
      seen : (a : AxisName) (i j k : ℕ) → IsCellRow m (place_along a i j k) (cell_row (place_along a i j k)) → pos (weight_along (cell_row (place_along a i j k)) a) ≡ mesh_cell m a i j k
      seen X i j k h = h.field X
      seen Y i j k h = h.field Y
      seen Z i j k h = h.field Z

  flux_cell : (a : AxisName) (i j k : ℕ) → i < n a → j < n (second a) → k < n (third a) → pos (cell_flux_at t a i j k) ≡ mesh_flux_cell m a i j k
  flux_cell a i j k p q r = ap pos (get_or-map (λ w. flux_weight_along w a) t.cell_rows.now (slice_index t.cells.now (cell_number n (place_along a i j k))) no_cell 0 (cell_within (place_along a i j k) (cell_along n a i j k p q r))) ∙ seen a i j k (cell_has (place_along a i j k) (cell_along n a i j k p q r))
    where
      seen : (a : AxisName) (i j k : ℕ) → IsCellRow m (place_along a i j k) (cell_row (place_along a i j k)) → pos (flux_weight_along (cell_row (place_along a i j k)) a) ≡ mesh_flux_cell m a i j k
      seen X i j k h = h.flux X
      seen Y i j k h = h.flux Y
      seen Z i j k h = h.flux Z

  -- a face's facts, seen along its axis
  record IsSeen (a : AxisName) (i j k : ℕ) (w : FaceWeight) : Type 0 where
    pub field : pos w.field ≡ mesh_face m a i j k
    pub flux : pos w.flux ≡ mesh_flux_face m a i j k
    pub level : (if w.inside then pos (10 ^ 8) else pos 0) ≡ mesh_level m inside a i j k
    pub source : source_of w ≡ mesh_source m inside a i j k

  face_seen : (a : AxisName) (i j k : ℕ) (w : FaceWeight) → IsFaceRow m inside (record { axis = a; place = place_along a i j k }) w → IsSeen a i j k w
  face_seen X i j k w h = record { field = h.field; flux = h.flux; level = h.level; source = h.source }
  face_seen Y i j k w h = record { field = h.field; flux = h.flux; level = h.level; source = h.source }
  face_seen Z i j k w h = record { field = h.field; flux = h.flux; level = h.level; source = h.source }

  seen_at : (a : AxisName) (i j k : ℕ) → i ≤ n a → j < n (second a) → k < n (third a) → IsSeen a i j k (face_row a (place_along a i j k))
  seen_at a i j k p q r = face_seen a i j k (face_row a (place_along a i j k)) (face_has a (place_along a i j k) (face_along n a i j k p q r))

  read : {A : Type 0} (f : FaceWeight → A) (d : A) (a : AxisName) (p : Place) → IsFace n a p → get_or (map f t.face_rows.now) (slice_index t.faces.now (face_number n a p)) d ≡ f (face_row a p)
  read f d a p h = get_or-map f t.face_rows.now (slice_index t.faces.now (face_number n a p)) no_face d (face_within a p h)

  on : (a : AxisName) (i : ℕ) → i < m.cells a → i < n a
  on a i h = subst (λ (k : Counts). i < k a) (sym e) h

  upto : (a : AxisName) (i : ℕ) → i ≤ m.cells a → i ≤ n a
  upto a i h = subst (λ (k : Counts). i ≤ k a) (sym e) h

  pub table_of : IsTableOf m inside t
  unfolding field_forms flux_forms
  table_of = record {
    field = record {
      cells = e;
      cell = λ a i j k p q r. field_cell a i j k (on a i p) (on (second a) j q) (on (third a) k r);
      face = λ a i j k p q r. ap pos (read (λ w. w.field) 0 a (place_along a i j k) (face_along n a i j k (upto a i p) (on (second a) j q) (on (third a) k r))) ∙ (seen_at a i j k (upto a i p) (on (second a) j q) (on (third a) k r)).field;
      level = λ a i j k p q r. ap (λ (b : Bool). if b then pos (10 ^ 8) else pos 0) (read (λ w. w.inside) false a (place_along a i j k) (face_along n a i j k (upto a i p) (on (second a) j q) (on (third a) k r))) ∙ (seen_at a i j k (upto a i p) (on (second a) j q) (on (third a) k r)).level;
    };
    flux = record {
      cells = e;
      cell = λ a i j k p q r. flux_cell a i j k (on a i p) (on (second a) j q) (on (third a) k r);
      face = λ a i j k p q r. ap pos (read (λ w. w.flux) 0 a (place_along a i j k) (face_along n a i j k (upto a i p) (on (second a) j q) (on (third a) k r))) ∙ (seen_at a i j k (upto a i p) (on (second a) j q) (on (third a) k r)).flux;
      source = λ a i j k p q r. read source_of (pos 0) a (place_along a i j k) (face_along n a i j k (upto a i p) (on (second a) j q) (on (third a) k r)) ∙ (seen_at a i j k (upto a i p) (on (second a) j q) (on (third a) k r)).source;
    };
    counts = λ a i j k h. let l = subst (λ (z : Counts). IsFace z a (place_at i j k)) (sym e) h in read (λ w. w.counts) false a (place_at i j k) l ∙ (face_has a (place_at i j k) l).counts;
  }
