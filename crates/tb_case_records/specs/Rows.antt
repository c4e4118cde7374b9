-- A row: a word and behind it the values at nodes or at faces.
use Rattle.std.specs.Prelude.{ℕ, ℤ, pos, ◌+◌, ◌==◌, ◌&&◌, ◌≡◌, ◌++◌, Bool, not, List, [], ◌∷◌, drop, length, codes, Option, Some, None, option_map, Result, Ok, Err, if◌then◌else◌}
use Rattle.std.specs.Option.{option_or}
use Rattle.std.specs.Str.{bytes_eq}
use Rattle.tb_places.specs.declared.AxisName.TheVariants.{X, Y, Z}
use Rattle.tb_detail.specs.Names.{Text}
use Rattle.tb_numbers.specs.Reading.{decimal_reading, in_size, signed_reading}
use Rattle.tb_numbers.specs.declared.parse.NumberFault.{NumberFault}
use Rattle.tb_numbers.specs.declared.parse.NumberFault.TheVariants as number
use Rattle.tb_reading.specs.Records.{Row, first_some, text_at}
use Rattle.tb_case_records.specs.declared.fault.RecordFault.{RecordFault}
use Rattle.tb_case_records.specs.declared.fault.RecordFault.TheVariants as fault
use Rattle.tb_case_records.specs.declared.rows.RowKind.{RowKind}
use Rattle.tb_case_records.specs.declared.rows.RowKind.TheVariants.{Nodes, Faces}
use Rattle.tb_case_records.specs.declared.rows.RowStop.{RowStop}
use Rattle.tb_case_records.specs.declared.rows.RowStop.TheVariants as stop

-- the word of a row of values at nodes, and at faces across an axis
abbrev pub word_of : RowKind → Text
word_of Nodes = codes "t"
word_of (Faces X) = codes "fx"
word_of (Faces Y) = codes "fy"
word_of (Faces Z) = codes "fz"

-- a node value, from 0 to 10⁸
unfoldable pub node_reading : Text → Result ℤ NumberFault
node_reading text = in_size 100000000 (option_map pos (decimal_reading 0 text))

-- a face value, of at most 10¹² in size
unfoldable pub face_reading : Text → Result ℤ NumberFault
face_reading text = in_size 1000000000000 (signed_reading 0 text)

abbrev pub reading_of : RowKind → Text → Result ℤ NumberFault
reading_of Nodes = node_reading
reading_of (Faces axis) = face_reading

-- the fault of the field of this number, by what it reads as
abbrev pub fault_in : {X : Type 0} → ℕ → Result X NumberFault → Option RecordFault
fault_in field (Ok x) = None
fault_in field (Err number.BadNumber) = Some (fault.BadNumber field)
fault_in field (Err number.OutOfRange) = Some (fault.OutOfRange field)

-- the faults of fields, from this number on
abbrev pub number_faults : RowKind → ℕ → List Text → List (Option RecordFault)
number_faults kind field [] = []
number_faults kind field (text ∷ texts) = fault_in field (reading_of kind text) ∷ number_faults kind (field + 1) texts

abbrev pub shape_if : Bool → Option RecordFault
shape_if is_fault = if is_fault then Some fault.Shape else None

-- the first fault of a row of so many values
abbrev pub row_fault : RowKind → ℕ → Row → Option RecordFault
row_fault kind count row =
    option_or (shape_if (not (bytes_eq (text_at row 0) (word_of kind) && length row == count + 1)))
    (first_some (number_faults kind 2 (drop 1 row)))

-- ---- the numbers

abbrev pub read_of : {X : Type 0} → Result X NumberFault → List X
read_of (Ok x) = x ∷ []
read_of (Err f) = []

-- the numbers that texts read as
abbrev pub numbers : {X : Type 0} → (Text → Result X NumberFault) → List Text → List X
numbers reading [] = []
numbers reading (text ∷ texts) = read_of (reading text) ++ numbers reading texts

-- ---- what reading a row answers

abbrev pub Unit0 : Type 0
Unit0 = Unit {0}

-- an answer tells this fault, or that there is none, unless memory ran out
abbrev pub TellsFault : {X : Type 0} → Result X RowStop → Option RecordFault → Type 0
TellsFault (Ok x) f = f ≡ None
TellsFault (Err (stop.Fault g)) f = f ≡ Some g
TellsFault (Err stop.NoMemory) f = Unit {0}
