-- The detail of a list of numbered records, or its first fault.
use Rattle.std.specs.Prelude.{◌≡◌, ℕ, ◌+◌, ◌==◌, Bool, List, [], ◌∷◌, ◌++◌, length, map, filter, Option, Some, None, Result, Ok, Err, option_map, position, slice_index, is_none, if◌then◌else◌}
use Rattle.std.specs.Option.{option_or}
use Rattle.tb_detail.specs.declared.Detail.{Detail}
use Rattle.tb_detail.specs.declared.Part.{Part}
use Rattle.tb_reading.specs.declared.fault.DetailFault.{DetailFault}
use Rattle.tb_reading.specs.declared.fault.DetailKind.{DetailKind}
use Rattle.tb_reading.specs.declared.fault.DetailKind.TheVariants.{EmptyPart, NotFormat}
use Rattle.tb_reading.specs.declared.fault.DetailRefusal.{DetailRefusal}
use Rattle.tb_reading.specs.declared.fault.DetailRefusal.TheVariants as refusal
use Rattle.tb_reading.specs.declared.fault.FieldFault.{FieldFault}
use Rattle.tb_reading.specs.declared.kinds.RecordKind.TheVariants as kind
use Rattle.tb_reading.specs.Details.{detail_of, head_of, names_of, same_kind}
use Rattle.tb_reading.specs.Records.{Row, first_some, kind_of, record_fault, unless}

-- a record and its number
abbrev pub Numbered : Type 0
Numbered = ℕ × Row

abbrev pub rows_of : List Numbered → List Row
rows_of given = map (λ (r : Numbered). r.1) given

-- rows with their numbers, counted on from here
abbrev pub numbered : ℕ → List Row → List Numbered
numbered n [] = []
numbered n (row ∷ rows) = (n, row) ∷ numbered (n + 1) rows

-- the first fault of a record, behind the records before it
abbrev pub fault_of : List Row → Row → Option FieldFault
fault_of before row = record_fault (names_of before) (detail_of before) row

abbrev pub at_number : ℕ → FieldFault → DetailFault
at_number n f = record { number = n; field = f.field; kind = f.kind }

-- the first fault of each record, behind those before it
abbrev pub record_faults : List Row → List Numbered → List (Option DetailFault)
record_faults before [] = []
record_faults before (r ∷ given) = option_map (at_number r.0) (fault_of before r.1) ∷ record_faults (before ++ r.1 ∷ []) given

-- the first record that has a fault, with its first fault
abbrev pub first_record_fault : List Numbered → Option DetailFault
first_record_fault given = first_some (record_faults [] given)

-- the numbers of the records that declare parts
abbrev pub part_numbers : List Numbered → List ℕ
part_numbers given = map (λ (r : Numbered). r.0) (filter (λ (r : Numbered). same_kind kind.Part (kind_of r.1)) given)

abbrev pub whole_fault : DetailKind → ℕ → DetailFault
whole_fault f n = record { number = n; field = 0; kind = f }

-- a detail with no record but remarks, whose fault bears this number
abbrev pub format_fault : ℕ → List Numbered → Option DetailFault
format_fault number given = if is_none (head_of (rows_of given)) then Some (whole_fault NotFormat number) else None

-- whether a part has no layer
abbrev pub is_bare : Part → Bool
is_bare p = length p.layers == 0

-- the record of the first part of the whole detail that has no layer
abbrev pub bare_fault : List ℕ → Detail → Option DetailFault
bare_fault numbers d = option_map (λ place. whole_fault EmptyPart (slice_index numbers place)) (position is_bare d.parts)

-- the first fault: of a record, else of the whole detail
abbrev pub first_fault : ℕ → List Numbered → Option DetailFault
first_fault number given =
    option_or (first_record_fault given)
    (option_or (format_fault number given)
    (bare_fault (part_numbers given) (detail_of (rows_of given))))

-- the detail of these records, or its first fault
abbrev pub detail_reading : ℕ → List Numbered → Result Detail DetailFault
detail_reading number given = unless (first_fault number given) (detail_of (rows_of given))

-- an answer is this reading, unless memory ran out
abbrev pub Answers : {X : Type 0} → Result X DetailRefusal → Result X DetailFault → Type 0
Answers (Ok x) reading = reading ≡ Ok x
Answers (Err (refusal.Fault f)) reading = reading ≡ Err f
Answers (Err refusal.NoMemory) reading = Unit {0}
