-- Which cases are within the limits of the format.
use Rattle.std.specs.Prelude.{◌≡◌, ℕ, ℤ, pos, ◌<◌, ◌≤◌, ◌^◌, ◌≤ℤ◌, unsigned_abs, List, length, All}
use Rattle.tb_places.specs.Places.{face_count, node_count}
use Rattle.tb_grid.specs.Grid.{Axes, IsGrid, counts_of}
use Rattle.tb_geometry.specs.Grids.{CarriesLines}
use Rattle.tb_case_records.specs.declared.case.CaseProof.{CaseProof}
use Rattle.tb_case_records.specs.declared.rows.RowKind.{RowKind}
use Rattle.tb_case_records.specs.declared.rows.RowKind.TheVariants.{Nodes, Faces}
use Rattle.tb_case_records.specs.Cases.{CaseForm}

-- a value at a node, 0 to 10⁸
abbrev pub IsNodeValue : ℤ → Type 0
IsNodeValue z = (pos 0 ≤ℤ z) × (unsigned_abs z ≤ 10 ^ 8)

-- a value at a face, at most 10¹² in size
abbrev pub IsFaceValue : ℤ → Type 0
IsFaceValue z = unsigned_abs z ≤ 10 ^ 12

-- the values of rows of a kind
abbrev pub IsValue : RowKind → ℤ → Type 0
IsValue Nodes = IsNodeValue
IsValue (Faces axis) = IsFaceValue

-- so many numbers, each within its limits
pub record AreValuesOf (P : ℤ → Type 0) (count : ℕ) (values : List ℤ) : Type 0 where
  pub one_each : length values ≡ count
  pub each : All P values

-- an end of an interval: at most 38 digits
abbrev pub IsEnd : ℤ → Type 0
IsEnd z = unsigned_abs z < 10 ^ 38

-- the lines of a body on an axis, of which there is one at least, are carried
pub record IsOnBase (base lines : List ℕ) : Type 0 where
  pub some : 1 ≤ length base
  pub carries : CarriesLines base lines

-- a case of this form is within limits: its grid has all base lines and ends at the hull, its field has a value for each
-- node and its flux one for each face
pub record CaseInLimits (f : CaseForm) (c : CaseProof) : Type 0 where
  pub case : c.case ≡ f.case
  pub grid : IsGrid c.grid
  pub on_x : IsOnBase f.x c.grid.x
  pub on_y : IsOnBase f.y c.grid.y
  pub on_z : IsOnBase f.z c.grid.z
  pub field : AreValuesOf IsNodeValue (node_count (counts_of c.grid)) c.field
  pub flux : AreValuesOf IsFaceValue (face_count (counts_of c.grid)) c.flux
  pub low_end : IsEnd c.interval.lo
  pub high_end : IsEnd c.interval.hi
  pub width : c.width ≤ 10 ^ 9
