-- A range of cells, and what stands in a table once it is painted.
use Rattle.std.specs.Prelude.{ℕ, ◌≡◌, ◌<◌, ◌≤◌, List, length, slice_index}
use Rattle.tb_places.specs.declared.AxisName.TheVariants.{X, Y, Z}
use Rattle.tb_places.specs.declared.Place.{Place}
use Rattle.tb_places.specs.Places.{Counts, IsCell, cell_number}
use Rattle.tb_places.specs.Ranges.{IsWithin}
use Rattle.tb_geometry.specs.declared.painting.CellRange.{CellRange}

-- a range has a cell
pub record HasCell (r : CellRange) (p : Place) : Type 0 where
  pub on_x : IsWithin r.from.i r.to.i p.i
  pub on_y : IsWithin r.from.j r.to.j p.j
  pub on_z : IsWithin r.from.k r.to.k p.k

-- a range has a cell, and lies in a grid
pub record FitsIn (n : Counts) (r : CellRange) : Type 0 where
  pub some_x : r.from.i < r.to.i
  pub some_y : r.from.j < r.to.j
  pub some_z : r.from.k < r.to.k
  pub end_x : r.to.i ≤ n X
  pub end_y : r.to.j ≤ n Y
  pub end_z : r.to.k ≤ n Z

-- from one number up to another a list has a value, and elsewhere what it had
pub record IsWritten (from to value : ℕ) (old new : List ℕ) : Type 0 where
  pub same_length : length new ≡ length old
  pub hit : (n : ℕ) → from ≤ n → n < to → slice_index new n ≡ value
  pub low : (n : ℕ) → n < from → slice_index new n ≡ slice_index old n
  pub high : (n : ℕ) → to ≤ n → slice_index new n ≡ slice_index old n

-- the cells of a set have the value, and the others what they had
pub record IsPainted (n : Counts) (In : Place → Type 0) (value : ℕ) (old new : List ℕ) : Type 0 where
  pub same_length : length new ≡ length old
  pub hit : (p : Place) → IsCell n p → In p → slice_index new (cell_number n p) ≡ value
  pub miss : (p : Place) → IsCell n p → ¬ In p →
      slice_index new (cell_number n p) ≡ slice_index old (cell_number n p)

-- the cells of a range in one layer, and those of its first rows there
pub record InLayer (r : CellRange) (k : ℕ) (p : Place) : Type 0 where
  pub on_x : IsWithin r.from.i r.to.i p.i
  pub on_y : IsWithin r.from.j r.to.j p.j
  pub layer : p.k ≡ k

pub record InRows (r : CellRange) (j k : ℕ) (p : Place) : Type 0 where
  pub on_x : IsWithin r.from.i r.to.i p.i
  pub on_y : IsWithin r.from.j j p.j
  pub layer : p.k ≡ k

pub record InLayers (r : CellRange) (k : ℕ) (p : Place) : Type 0 where
  pub on_x : IsWithin r.from.i r.to.i p.i
  pub on_y : IsWithin r.from.j r.to.j p.j
  pub on_z : IsWithin r.from.k k p.k
