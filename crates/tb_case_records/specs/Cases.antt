-- The records of a case: what is awaited, made from the axes among them, and what they say.
use Rattle.std.specs.Prelude.{◌≡◌, ℕ, zero, suc, ℤ, pos, ◌*◌, ◌≤◌, List, [], ◌∷◌, ◌++◌, length, map, drop, codes, Option, Some, None, Result, Ok, Err, if◌then◌else◌}
use Rattle.std.specs.Borrow.{Bor}
use Rattle.std.specs.Str.{bytes_eq}
use Rattle.tb_places.specs.declared.AxisName.TheVariants.{X, Y, Z}
use Rattle.tb_detail.specs.Names.{Text}
use Rattle.tb_grid.specs.Axis.{interval_count}
use Rattle.tb_grid.specs.Grid.{Axes}
use Rattle.tb_geometry.specs.declared.case.Case.{Case}
use Rattle.tb_terms.specs.declared.Interval.{Interval}
use Rattle.tb_numbers.specs.Reading.{whole_reading}
use Rattle.tb_numbers.specs.declared.parse.NumberFault.{NumberFault}
use Rattle.tb_reading.specs.Reading.{Numbered}
use Rattle.tb_reading.specs.Records.{Row, text_at}
use Rattle.tb_case_records.specs.declared.case.CaseShape.{CaseShape}
use Rattle.tb_case_records.specs.declared.case.CaseProof.{CaseProof}
use Rattle.tb_case_records.specs.declared.ends.Verdict.{Verdict}
use Rattle.tb_case_records.specs.declared.ends.Verdict.TheVariants as verdict
use Rattle.tb_case_records.specs.declared.fault.BundleRefusal.{BundleRefusal}
use Rattle.tb_case_records.specs.Ahead.{Ahead, row_numbers}
use Rattle.tb_case_records.specs.Rows.{face_reading, node_reading, numbers}
use Rattle.tb_case_records.specs.Table.{Axis, Ends, Exactly, Expected, IsPast, Judged, Stops, face_rows, line_reading, node_rows, width_reading}

-- what a case is in its bundle: its number, its environments, its first record, and the base lines of its body
pub record CaseForm : Type 0 where
  pub number : ℕ
  pub case : Case
  pub words : List Text
  pub x : List ℕ
  pub y : List ℕ
  pub z : List ℕ

-- the fields of the record at this place, none past the end
abbrev pub row_at : List Numbered → ℕ → Row
row_at [] i = []
row_at (r ∷ given) zero = r.1
row_at (r ∷ given) (suc i) = row_at given i

-- the lines of the axis in the record at this place
abbrev pub lines_in : List Numbered → ℕ → List ℕ
lines_in given i = numbers line_reading (drop 1 (row_at given i))

abbrev pub axes_in : List Numbered → Axes
axes_in given = record { x = lines_in given 1; y = lines_in given 2; z = lines_in given 3 }

abbrev pub cells_in : List Numbered → ℕ → ℕ
cells_in given i = interval_count (lines_in given i)

-- ---- what is awaited

abbrev pub case_nodes : List Numbered → List Expected
case_nodes given = node_rows (cells_in given 1) (cells_in given 2) (cells_in given 3)

abbrev pub case_faces : List Numbered → List Expected
case_faces given = face_rows (cells_in given 1) (cells_in given 2) (cells_in given 3)

-- the first record and those of the axes
abbrev pub head_table : CaseForm → List Numbered → List Expected
head_table f given =
    Exactly f.words
    ∷ Axis f.number X f.x 0
    ∷ Axis f.number Y f.y 0
    ∷ Axis f.number Z f.z (cells_in given 1 * cells_in given 2)
    ∷ []

-- the awaited records of a case whose records begin here. Its rows are as many as its axes ask for; where a record of
-- an axis is at fault, that fault comes before any fault of a row
unfoldable pub case_table : CaseForm → List Numbered → List Expected
case_table f given = head_table f given ++ (case_nodes given ++ (case_faces given ++ (Ends ∷ Judged ∷ [])))

abbrev pub form_of : CaseShape → CaseForm
form_of s = record {
  number = s.number;
  case = s.case;
  words = map (λ (w : Bor Text). w.now) s.words.now;
  x = s.x.now;
  y = s.y.now;
  z = s.z.now;
}

-- ---- what the records say

abbrev pub whole_in : Option ℤ → ℤ
whole_in None = pos 0
whole_in (Some z) = z

abbrev pub end_in : Row → ℕ → ℤ
end_in row i = whole_in (whole_reading (text_at row i))

abbrev pub interval_in : Row → Interval
interval_in row = record { lo = end_in row 1; hi = end_in row 2 }

abbrev pub verdict_in : Text → Verdict
verdict_in text =
    if bytes_eq text (codes "done") then verdict.Done
    else (if bytes_eq text (codes "grid") then verdict.GridLimit else verdict.SweepsSpent)

abbrev pub width_in : Result ℕ NumberFault → ℕ
width_in (Ok n) = n
width_in (Err f) = 0

-- the records behind the axes, behind the node rows, and behind the face rows
abbrev pub behind_axes : List Numbered → List Numbered
behind_axes given = drop 4 given

abbrev pub behind_nodes : List Numbered → List Numbered
behind_nodes given = drop (length (case_nodes given)) (behind_axes given)

abbrev pub behind_faces : List Numbered → List Numbered
behind_faces given = drop (length (case_faces given)) (behind_nodes given)

-- the case whose records begin here
unfoldable pub case_of : CaseForm → List Numbered → CaseProof
case_of f given = record {
  case = f.case;
  grid = axes_in given;
  field = row_numbers node_reading (length (case_nodes given)) (behind_axes given);
  flux = row_numbers face_reading (length (case_faces given)) (behind_nodes given);
  interval = interval_in (row_at (behind_faces given) 0);
  verdict = verdict_in (text_at (row_at (behind_faces given) 1) 1);
  width = width_in (width_reading (text_at (row_at (behind_faces given) 1) 2));
}

-- these are the lines of the axes
pub record AreAxes (x y z : List ℕ) (given : List Numbered) : Type 0 where
  pub on_x : x ≡ lines_in given 1
  pub on_y : y ≡ lines_in given 2
  pub on_z : z ≡ lines_in given 3

-- these are the values of the node rows and the face rows ahead
pub record AreValues (x y z : ℕ) (field flux : List ℤ) (given : List Numbered) : Type 0 where
  pub nodes : field ≡ row_numbers node_reading (length (node_rows x y z)) given
  pub faces : flux ≡ row_numbers face_reading (length (face_rows x y z)) (drop (length (node_rows x y z)) given)

-- the two records ahead say this
pub record EndsAs (interval : Interval) (v : Verdict) (width : ℕ) (given : List Numbered) : Type 0 where
  pub interval_is : interval ≡ interval_in (row_at given 0)
  pub verdict_is : v ≡ verdict_in (text_at (row_at given 1) 1)
  pub width_is : width ≡ width_in (width_reading (text_at (row_at given 1) 2))

-- a case is read as its records say, or its first fault is told, unless memory ran out
pub record IsCase (f : CaseForm) (old new : Ahead) (c : CaseProof) : Type 0 where
  pub past : IsPast (case_table f old.ahead) old new
  pub said : c ≡ case_of f old.ahead

abbrev pub ReadsCase : CaseForm → Ahead → Ahead → Result CaseProof BundleRefusal → Type 0
ReadsCase f old new (Ok c) = IsCase f old new c
ReadsCase f old new (Err e) = Stops (case_table f old.ahead) old e
