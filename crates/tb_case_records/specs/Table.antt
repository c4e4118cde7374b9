-- The records of a case as a table, and its readings: the first fault, and the case.
use Rattle.std.specs.Prelude.{◌≡◌, ℕ, ℤ, ◌+◌, ◌-◌, ◌*◌, ◌==◌, ◌&&◌, ◌||◌, Bool, true, false, not, List, [], ◌∷◌, ◌++◌, length, drop, replicate, codes, nat_le, nat_lt, slice_index, Option, Some, None, option_map, Result, Ok, Err, if◌then◌else◌}
use Rattle.std.specs.Option.{option_or}
use Rattle.std.specs.List.{find, list_any, repeat}
use Rattle.std.specs.Cmp.Lexicographic.{pointwise}
use Rattle.std.specs.Str.{bytes_eq}
use Rattle.tb_places.specs.declared.AxisName.{AxisName}
use Rattle.tb_places.specs.declared.AxisName.TheVariants.{X, Y, Z}
use Rattle.tb_detail.specs.Names.{Text}
use Rattle.tb_grid.specs.Axis.{most_lines}
use Rattle.tb_grid.specs.Grid.{most_cells}
use Rattle.tb_numbers.specs.Reading.{decimal_reading, in_range, whole_reading}
use Rattle.tb_numbers.specs.declared.parse.NumberFault.{NumberFault}
use Rattle.tb_reading.specs.Reading.{Numbered}
use Rattle.tb_reading.specs.Records.{Row, first_some, text_at}
use Rattle.tb_case_records.specs.declared.fault.BundleFault.{BundleFault}
use Rattle.tb_case_records.specs.declared.fault.BundleFault.TheVariants as bundle
use Rattle.tb_case_records.specs.declared.fault.BundleRefusal.{BundleRefusal}
use Rattle.tb_case_records.specs.declared.fault.BundleRefusal.TheVariants as refusal
use Rattle.tb_case_records.specs.declared.fault.RecordFault.{RecordFault}
use Rattle.tb_case_records.specs.declared.fault.RecordFault.TheVariants as fault
use Rattle.tb_case_records.specs.declared.rows.RowKind.{RowKind}
use Rattle.tb_case_records.specs.declared.rows.RowKind.TheVariants.{Nodes, Faces}
use Rattle.tb_case_records.specs.Faults.{placed}
use Rattle.tb_case_records.specs.Ahead.{Ahead}
use Rattle.tb_case_records.specs.Rows.{fault_in, numbers, row_fault, shape_if}

-- a record that is awaited
pub data Expected : Type 0 where
  -- these fields
  Exactly : List Text → Expected
  -- the lines of an axis in this case, with these base lines, where each interval makes so many cells
  Axis : ℕ → AxisName → List ℕ → ℕ → Expected
  -- so many values of this kind
  Values : RowKind → ℕ → Expected
  -- the ends of an interval
  Ends : Expected
  -- the verdict and the width
  Judged : Expected
  -- none: each record is at fault
  Never : Expected

-- ---- the fields of an axis

-- a line, 0 to 50,000 mm
unfoldable pub line_reading : Text → Result ℕ NumberFault
line_reading text = in_range 0 500000 (decimal_reading 1 text)

abbrev pub is_above : Option ℕ → ℕ → Bool
is_above None x = true
is_above (Some before) x = nat_lt before x

abbrev pub read_line : Result ℕ NumberFault → Option ℕ
read_line (Ok x) = Some x
read_line (Err f) = None

-- the fault of a line behind the line before it, in a hull from `low` to `high`
abbrev pub line_fault : ℕ → ℕ → Option ℕ → ℕ → Result ℕ NumberFault → Option RecordFault
line_fault low high before field (Ok x) =
    if not (is_above before x) then Some (fault.NotRising field)
    else (if nat_lt x low || nat_lt high x then Some (fault.LineOutside field) else None)
line_fault low high before field (Err f) = fault_in {X = ℕ} field (Err f)

abbrev pub line_faults : ℕ → ℕ → Option ℕ → ℕ → List Text → List (Option RecordFault)
line_faults low high before field [] = []
line_faults low high before field (text ∷ texts) =
    line_fault low high before field (line_reading text) ∷ line_faults low high (read_line (line_reading text)) (field + 1) texts

abbrev pub letter : AxisName → Text
letter X = codes "x"
letter Y = codes "y"
letter Z = codes "z"

abbrev pub is_none_of : List ℕ → ℕ → Bool
is_none_of lines x = not (list_any (λ line. line == x) lines)

-- more than 1,024 lines, or more than 262,144 cells
abbrev pub is_too_large : ℕ → ℕ → Bool
is_too_large lines cells = nat_lt most_lines lines || nat_lt most_cells (cells * (lines - 1))

abbrev pub last_of : List ℕ → ℕ
last_of bases = slice_index bases (length bases - 1)

abbrev pub axis_fault : ℕ → AxisName → List ℕ → ℕ → Row → Option RecordFault
axis_fault case axis bases cells row =
    option_or (shape_if (not (bytes_eq (text_at row 0) (letter axis) && (nat_le 3 (length row) && nat_le 1 (length bases)))))
    (option_or (first_some (line_faults (slice_index bases 0) (last_of bases) None 2 (drop 1 row)))
    (option_or (if is_too_large (length row - 1) cells then Some fault.GridTooLarge else None)
    (option_map (λ line. fault.LineMissing case axis line) (find (is_none_of (numbers line_reading (drop 1 row))) bases))))

-- ---- the last two records

abbrev pub end_fault : ℕ → Option ℤ → Option RecordFault
end_fault field (Some z) = None
end_fault field None = Some (fault.BadNumber field)

abbrev pub ends_fault : Row → Option RecordFault
ends_fault row =
    option_or (shape_if (not (bytes_eq (text_at row 0) (codes "interval") && length row == 3)))
    (option_or (end_fault 2 (whole_reading (text_at row 1))) (end_fault 3 (whole_reading (text_at row 2))))

abbrev pub is_verdict : Text → Bool
is_verdict text = bytes_eq text (codes "done") || (bytes_eq text (codes "grid") || bytes_eq text (codes "sweeps"))

unfoldable pub width_reading : Text → Result ℕ NumberFault
width_reading text = in_range 0 1000000000 (decimal_reading 0 text)

abbrev pub verdict_fault : Row → Option RecordFault
verdict_fault row =
    option_or (shape_if (not (bytes_eq (text_at row 0) (codes "verdict") && (length row == 3 && is_verdict (text_at row 1)))))
    (fault_in 3 (width_reading (text_at row 2)))

-- ---- the first fault of records

abbrev pub same_fields : List Text → Row → Bool
same_fields fields row = pointwise bytes_eq fields row

abbrev pub fault_of : Expected → Row → Option RecordFault
fault_of (Exactly fields) row = shape_if (not (same_fields fields row))
fault_of (Axis case axis bases cells) row = axis_fault case axis bases cells row
fault_of (Values kind count) row = row_fault kind count row
fault_of Ends row = ends_fault row
fault_of Judged row = verdict_fault row
fault_of Never row = Some fault.Shape

abbrev pub line_of_fault : ℕ → Option RecordFault → Option BundleFault
line_of_fault number None = None
line_of_fault number (Some f) = Some (placed number f)

-- the faults of the awaited records, one behind the other
abbrev pub faults : List Expected → List Numbered → List (Option BundleFault)
faults [] given = []
faults (e ∷ es) [] = Some bundle.NoEnd ∷ []
faults (e ∷ es) (r ∷ given) = line_of_fault r.0 (fault_of e r.1) ∷ faults es given

abbrev pub first_fault : List Expected → List Numbered → Option BundleFault
first_fault es given = first_some (faults es given)

-- ---- what taking records answers

-- the awaited records stood ahead without a fault, and are passed
pub record IsPast (es : List Expected) (old new : Ahead) : Type 0 where
  pub faultless : first_fault es old.ahead ≡ None
  pub rest : new.ahead ≡ drop (length es) old.ahead
  pub total : new.total ≡ old.total

-- a refusal tells this fault, or that memory ran out
abbrev pub Refuses : Option BundleFault → BundleRefusal → Type 0
Refuses o (refusal.Fault f) = o ≡ Some f
Refuses o refusal.NoMemory = Unit {0}

-- a refusal tells the first fault of the awaited records, or that memory ran out
abbrev pub Stops : List Expected → Ahead → BundleRefusal → Type 0
Stops es old e = Refuses (first_fault es old.ahead) e

abbrev pub Taken : {X : Type 0} → List Expected → Ahead → Ahead → Result X BundleRefusal → Type 0
Taken es old new (Ok x) = IsPast es old new
Taken es old new (Err e) = Stops es old e

-- ---- the rows of a case with so many cells along x, y and z

abbrev pub node_rows : ℕ → ℕ → ℕ → List Expected
node_rows x y z = replicate ((y + 1) * (z + 1)) (Values Nodes (x + 1))

abbrev pub across_z : ℕ → ℕ → List Expected
across_z x y = replicate y (Values (Faces Z) x)

-- the faces of a layer: at its low end, across x and across y
abbrev pub layer_rows : ℕ → ℕ → List Expected
layer_rows x y = across_z x y ++ (replicate y (Values (Faces X) (x + 1)) ++ replicate (y + 1) (Values (Faces Y) x))

-- in the order of the numbers of faces
abbrev pub face_rows : ℕ → ℕ → ℕ → List Expected
face_rows x y z = repeat z (layer_rows x y) ++ across_z x y
