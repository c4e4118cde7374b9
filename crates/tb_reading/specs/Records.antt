-- What a record says, and its first fault, behind the names and the detail of the records before it.
use Rattle.std.specs.Prelude.{ℕ, ◌+◌, ◌==◌, ◌&&◌, ◌||◌, not, Bool, true, false, List, [], ◌∷◌, length, codes, Option, Some, None, Result, Ok, Err, option_map, option_and_then, unwrap_or, slice_get, slice_index_or, nat_lt, nat_le, if◌then◌else◌, ℤ, pos, int_lt}
use Rattle.std.specs.Str.{bytes_eq}
use Rattle.std.specs.List.{find}
use Rattle.std.specs.Option.{option_map_or, option_or}
use Rattle.csv.specs.Records.{field_at}
use Rattle.tb_records.specs.Records.{is_remark}
use Rattle.tb_numbers.specs.Reading.{decimal_reading, in_range, in_size, signed_reading}
use Rattle.tb_numbers.specs.declared.parse.NumberFault.{NumberFault}
use Rattle.tb_numbers.specs.declared.parse.NumberFault.TheVariants as number_fault
use Rattle.tb_detail.specs.declared.Detail.{Detail}
use Rattle.tb_detail.specs.declared.limits.TheConstants.{MOST_BOXES, MOST_ENVIRONMENTS, MOST_LAYERS, MOST_NAMES, MOST_PSI, MOST_TERMS}
use Rattle.tb_detail.specs.declared.Part.{Part}
use Rattle.tb_detail.specs.declared.PsiItem.{PsiItem}
use Rattle.tb_detail.specs.declared.ChiItem.{ChiItem}
use Rattle.tb_reading.specs.declared.fault.DetailKind.{DetailKind}
use Rattle.tb_reading.specs.declared.fault.DetailKind.TheVariants as fault
use Rattle.tb_reading.specs.declared.fault.FieldFault.{FieldFault}
use Rattle.tb_reading.specs.declared.kinds.RecordKind.{RecordKind}
use Rattle.tb_reading.specs.declared.kinds.RecordKind.TheVariants as kind
use Rattle.tb_reading.specs.declared.kinds.NameKind.TheVariants as name
use Rattle.tb_detail.specs.declared.quantity.Quantity.{Quantity}
use Rattle.tb_reading.specs.declared.kinds.FieldCount.{FieldCount}
use Rattle.tb_reading.specs.declared.kinds.FieldCount.TheVariants.{Exactly, ByDimension, Between, OnePerSection}
use Rattle.tb_reading.specs.declared.kinds.FieldRule.{FieldRule}
use Rattle.tb_reading.specs.declared.kinds.FieldRule.TheVariants.{Word, Declares, BelongsTo, Uses, UsesOther, Reads, ReadsAbove, ReadsPsi, ReadsPsiFrom}
use Rattle.tb_reading.specs.declared.records.Said.{Said}
use Rattle.tb_reading.specs.declared.records.Said.TheVariants as said
use Rattle.tb_reading.specs.declared.values.FieldValue.{FieldValue}
use Rattle.tb_reading.specs.declared.values.FieldValue.TheVariants.{Nothing, Place, Number, Signed}
use Rattle.tb_reading.specs.Kinds.{all_kinds, field_count, fields, is_allowed, places, word}
use Rattle.tb_detail.specs.Names.{Text, is_name}
use Rattle.tb_detail.specs.Quantities.{least, most}
use Rattle.tb_reading.specs.Names.{NamesByKind, name_count, place_of}

-- a record as a list of fields
abbrev pub Row : Type 0
Row = List Text

-- the bytes of a field, none where there is no such field
abbrev pub text_at : Row → ℕ → Text
text_at row i = unwrap_or (field_at row i) []

-- the kind of a record that isn't a remark, by its first field
unfoldable pub kind_of : Row → Option RecordKind
kind_of row = if is_remark row then None else find (λ k. bytes_eq (text_at row 0) (word k)) all_kinds

-- ---- numbers

abbrev pub of_number : {X : Type 0} → Result X NumberFault → Result X DetailKind
of_number (Ok n) = Ok n
of_number (Err number_fault.BadNumber) = Err fault.BadNumber
of_number (Err number_fault.OutOfRange) = Err fault.OutOfRange

-- a text as a number of a quantity
unfoldable pub number_reading : Quantity → Text → Result ℕ DetailKind
number_reading q text = of_number (in_range (least q) (most q) (decimal_reading (places q) text))

-- a text as a ψ, of 6 places and up to 1000 W/(m·K) in size
unfoldable pub psi_reading : Text → Result ℤ DetailKind
psi_reading text = of_number (in_size MOST_PSI (signed_reading 6 text))

-- ---- the value of a field: the place of the name that it uses, or its number

abbrev pub place_value : Option ℕ → FieldValue
place_value None = Nothing
place_value (Some place) = Place place

abbrev pub number_value : Result ℕ DetailKind → FieldValue
number_value (Ok n) = Number n
number_value (Err f) = Nothing

abbrev pub psi_value : Result ℤ DetailKind → FieldValue
psi_value (Ok z) = Signed z
psi_value (Err f) = Nothing

abbrev pub value : NamesByKind → FieldRule → Text → FieldValue
value names Word text = Nothing
value names (Declares k) text = Nothing
value names (BelongsTo k) text = place_value (place_of (names k) text)
value names (Uses k) text = place_value (place_of (names k) text)
value names (UsesOther k) text = place_value (place_of (names k) text)
value names (Reads q) text = number_value (number_reading q text)
value names (ReadsAbove q) text = number_value (number_reading q text)
value names ReadsPsi text = psi_value (psi_reading text)
value names ReadsPsiFrom text = psi_value (psi_reading text)

-- the values of a record's fields, each by its rule
abbrev pub values : NamesByKind → List FieldRule → List Text → List FieldValue
values names [] texts = []
values names (rule ∷ rules) [] = []
values names (rule ∷ rules) (text ∷ texts) = value names rule text ∷ values names rules texts

-- ---- the fault of a field, behind the value of the field before it

abbrev pub name_fault : List Text → Text → Option DetailKind
name_fault names text =
    if is_name text then option_map (λ place. fault.NameTwice) (place_of names text) else Some fault.BadName

abbrev pub use_fault : Option ℕ → Option DetailKind
use_fault None = Some fault.UnknownName
use_fault (Some place) = None

abbrev pub is_place : ℕ → FieldValue → Bool
is_place place (Place other) = other == place
is_place place _ = false

abbrev pub pair_fault : FieldValue → Option ℕ → Option DetailKind
pair_fault before None = Some fault.UnknownName
pair_fault before (Some place) = if is_place place before then Some fault.SamePair else None

abbrev pub number_fault_in : {X : Type 0} → Result X DetailKind → Option DetailKind
number_fault_in (Ok n) = None
number_fault_in (Err f) = Some f

abbrev pub number_in : FieldValue → ℕ
number_in (Number n) = n
number_in _ = 0

abbrev pub signed_in : FieldValue → ℤ
signed_in (Signed z) = z
signed_in _ = pos 0

abbrev pub place_in : FieldValue → ℕ
place_in (Place place) = place
place_in _ = 0

abbrev pub above_fault : FieldValue → Result ℕ DetailKind → Option DetailKind
above_fault before (Ok n) = if nat_lt (number_in before) n then None else Some fault.Reversed
above_fault before (Err f) = Some f

abbrev pub from_fault : FieldValue → Result ℤ DetailKind → Option DetailKind
from_fault before (Ok z) = if int_lt z (signed_in before) then Some fault.Reversed else None
from_fault before (Err f) = Some f

abbrev pub field_fault : NamesByKind → FieldRule → FieldValue → Text → Option DetailKind
field_fault names Word before text = None
field_fault names (Declares k) before text = name_fault (names k) text
field_fault names (BelongsTo k) before text = use_fault (place_of (names k) text)
field_fault names (Uses k) before text = use_fault (place_of (names k) text)
field_fault names (UsesOther k) before text = pair_fault before (place_of (names k) text)
field_fault names (Reads q) before text = number_fault_in (number_reading q text)
field_fault names (ReadsAbove q) before text = above_fault before (number_reading q text)
field_fault names ReadsPsi before text = number_fault_in (psi_reading text)
field_fault names ReadsPsiFrom before text = from_fault before (psi_reading text)

-- ---- the first fault of a record

-- the first that there is
abbrev pub first_some : {X : Type 0} → List (Option X) → Option X
first_some [] = None
first_some (None ∷ xs) = first_some xs
first_some (Some x ∷ xs) = Some x

-- a fault of a field, which is counted from 1
abbrev pub at_field : ℕ → Option DetailKind → Option FieldFault
at_field number None = None
at_field number (Some f) = Some (record { field = number; kind = f })

-- a fault of the record as a whole, where it is at fault
abbrev pub fault_if : Bool → DetailKind → Option FieldFault
fault_if is_fault f = if is_fault then Some (record { field = 0; kind = f }) else None

-- the faults of the fields from this number on, each by its rule and the value of the field before
abbrev pub field_faults : NamesByKind → ℕ → FieldValue → List FieldRule → List Text → List (Option FieldFault)
field_faults names number before [] texts = []
field_faults names number before (rule ∷ rules) [] = []
field_faults names number before (rule ∷ rules) (text ∷ texts) =
    at_field number (field_fault names rule before text) ∷ field_faults names (number + 1) (value names rule text) rules texts

abbrev pub value_at : List FieldValue → ℕ → FieldValue
value_at vs i = slice_index_or vs i Nothing

-- the number of sections of the part that a layer names
abbrev pub sections_of : NamesByKind → Detail → Row → Option ℕ
sections_of names d row = option_map (λ (p : Part). length p.areas) (option_and_then (slice_get d.parts) (place_of (names name.Part) (text_at row 1)))

-- a layer has one material for each section of its part, and 1 to 4 where that isn't known
abbrev pub is_layer_count : Option ℕ → ℕ → Bool
is_layer_count None count = nat_le 4 count && nat_le count 7
is_layer_count (Some sections) count = count == sections + 3

-- whether this is such a number of fields
abbrev pub is_counted : ℕ → Option ℕ → FieldCount → ℕ → Bool
is_counted dimension sections (Exactly n) count = count == n
is_counted dimension sections (ByDimension flat deep) count = count == (if dimension == 2 then flat else deep)
is_counted dimension sections (Between low high) count = nat_le low count && nat_le count high
is_counted dimension sections OnePerSection count = is_layer_count sections count

-- whether a record has as many fields as its kind asks for
abbrev pub is_count : ℕ → Option ℕ → RecordKind → ℕ → Bool
is_count dimension sections k count = is_counted dimension sections (field_count k) count

abbrev pub part_layers : Part → ℕ
part_layers p = length p.layers

abbrev pub psi_lengths : PsiItem → ℕ
psi_lengths p = length p.lengths

abbrev pub chi_areas : ChiItem → ℕ
chi_areas c = length c.areas

abbrev pub chi_lines : ChiItem → ℕ
chi_lines c = length c.lines

-- how many things of its kind an item has, none where there is no such item
abbrev pub count_at : {X : Type 0} → (X → ℕ) → List X → FieldValue → ℕ
count_at count xs v = option_map_or count (slice_get xs (place_in v)) 0

-- whether there are already as many things as there may be of what a record adds
abbrev pub is_full : NamesByKind → Detail → RecordKind → List FieldValue → Bool
is_full names d kind.Environment vs = nat_le MOST_ENVIRONMENTS (length d.environments) || nat_le MOST_NAMES (name_count names)
is_full names d kind.Material vs = nat_le MOST_NAMES (name_count names)
is_full names d kind.Solid vs = nat_le MOST_BOXES (length d.boxes)
is_full names d kind.Air vs = nat_le MOST_BOXES (length d.boxes)
is_full names d kind.Part vs = nat_le MOST_NAMES (name_count names)
is_full names d kind.Layer vs = nat_le MOST_LAYERS (count_at part_layers d.parts (value_at vs 1))
is_full names d kind.Psi vs = nat_le MOST_NAMES (name_count names)
is_full names d kind.Length vs = nat_le MOST_TERMS (count_at psi_lengths d.psis (value_at vs 1))
is_full names d kind.Chi vs = nat_le MOST_NAMES (name_count names)
is_full names d kind.Area vs = nat_le MOST_TERMS (count_at chi_areas d.chis (value_at vs 1))
is_full names d kind.Line vs = nat_le MOST_TERMS (count_at chi_lines d.chis (value_at vs 1))

-- the first fault of a record of a kind: of its dimension, its number of fields, its fields from left to
-- right, and the count of what it adds
abbrev pub kind_fault : NamesByKind → Detail → RecordKind → Row → Option FieldFault
kind_fault names d k row =
    option_or (fault_if (not (is_allowed d.dimension k)) fault.WrongDimension)
    (option_or (fault_if (not (is_count d.dimension (sections_of names d row) k (length row))) fault.FieldCount)
    (option_or (first_some (field_faults names 1 Nothing (fields k) row))
    (fault_if (is_full names d k (values names (fields k) row)) fault.TooMany)))

abbrev pub fault_as : NamesByKind → Detail → Option RecordKind → Row → Option FieldFault
fault_as names d None row = fault_if true fault.UnknownKind
fault_as names d (Some k) row = kind_fault names d k row

-- the dimension that the head of a detail gives, 0 where the record is no such head
unfoldable pub head_dimension : Row → ℕ
head_dimension row =
    if length row == 3 && (bytes_eq (text_at row 0) (codes "detail") && bytes_eq (text_at row 1) (codes "1"))
    then (if bytes_eq (text_at row 2) (codes "2") then 2 else (if bytes_eq (text_at row 2) (codes "3") then 3 else 0))
    else 0

-- the first fault of a record behind these names and this detail, which has the dimension 0 before its head
unfoldable pub record_fault : NamesByKind → Detail → Row → Option FieldFault
record_fault names d row =
    if is_remark row then None
    else (if d.dimension == 0 then fault_if (head_dimension row == 0) fault.NotFormat
    else fault_as names d (kind_of row) row)

-- ---- what a record says

-- a value, or the fault that there is
abbrev pub unless : {X F : Type 0} → Option F → X → Result X F
unless None x = Ok x
unless (Some f) x = Err f

abbrev pub values_as : NamesByKind → Option RecordKind → Row → List FieldValue
values_as names None row = []
values_as names (Some k) row = values names (fields k) row

abbrev pub said_as : NamesByKind → Option RecordKind → Row → Said
said_as names None row = said.Remark
said_as names (Some k) row = said.Record k (values names (fields k) row)

-- what a record without a fault says
unfoldable pub said_by : NamesByKind → Detail → Row → Said
said_by names d row =
    if is_remark row then said.Remark
    else (if d.dimension == 0 then said.Head (head_dimension row) else said_as names (kind_of row) row)

-- what a record says, or its first fault
abbrev pub reading : NamesByKind → Detail → Row → Result Said FieldFault
reading names d row = unless (record_fault names d row) (said_by names d row)
