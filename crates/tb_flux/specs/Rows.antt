-- The flows through the faces of a row of cells.
use Rattle.std.specs.Prelude.{◌≡◌, ℕ, ◌+◌, ◌<◌, List, length, slice_index_or, ℤ, pos, ◌+ℤ◌, ◌-ℤ◌}
use Rattle.tb_places.specs.declared.AxisName.TheVariants.{X, Y, Z}
use Rattle.tb_places.specs.Along.{ahead}
use Rattle.tb_places.specs.Places.{Counts, face_number, place_at}
use Rattle.tb_flux.specs.declared.row.CellRow.{CellRow}

-- a list has the flows through so many faces, from one on
pub record AreFlowsFrom (values : List ℤ) (face faces : ℕ) (row : List ℤ) : Type 0 where
  pub count : length row ≡ faces
  pub flows : (i : ℕ) → i < faces → slice_index_or row i (pos 0) ≡ slice_index_or values (face + i) (pos 0)

-- a row has the flows at the sides of its cells
pub record AreRowFlows (n : Counts) (values : List ℤ) (j k : ℕ) (row : CellRow) : Type 0 where
  pub low_x : AreFlowsFrom values (face_number n X (place_at 0 j k)) (n X) row.low_x.now
  pub high_x : AreFlowsFrom values (face_number n X (ahead X 1 (place_at 0 j k))) (n X) row.high_x.now
  pub low_y : AreFlowsFrom values (face_number n Y (place_at 0 j k)) (n X) row.low_y.now
  pub high_y : AreFlowsFrom values (face_number n Y (ahead Y 1 (place_at 0 j k))) (n X) row.high_y.now
  pub low_z : AreFlowsFrom values (face_number n Z (place_at 0 j k)) (n X) row.low_z.now
  pub high_z : AreFlowsFrom values (face_number n Z (ahead Z 1 (place_at 0 j k))) (n X) row.high_z.now

-- what leaves cell i of a row through its six faces
abbrev pub leaving_in : CellRow → ℕ → ℤ
leaving_in row i =
    (slice_index_or row.high_x.now i (pos 0) -ℤ slice_index_or row.low_x.now i (pos 0))
    +ℤ (slice_index_or row.high_y.now i (pos 0) -ℤ slice_index_or row.low_y.now i (pos 0))
    +ℤ (slice_index_or row.high_z.now i (pos 0) -ℤ slice_index_or row.low_z.now i (pos 0))
