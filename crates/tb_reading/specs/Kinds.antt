-- What each kind of record is, as a table.
use Rattle.std.specs.Prelude.{ℕ, ◌==◌, Bool, true, List, [], ◌∷◌, codes, Option, Some, None}
use Rattle.tb_reading.specs.declared.kinds.RecordKind.{RecordKind}
use Rattle.tb_reading.specs.declared.kinds.RecordKind.TheVariants as kind
use Rattle.tb_reading.specs.declared.kinds.NameKind.{NameKind}
use Rattle.tb_reading.specs.declared.kinds.NameKind.TheVariants as name
use Rattle.tb_detail.specs.declared.quantity.Quantity.{Quantity}
use Rattle.tb_detail.specs.declared.quantity.Quantity.TheVariants as quantity
use Rattle.tb_reading.specs.declared.kinds.FieldCount.{FieldCount}
use Rattle.tb_reading.specs.declared.kinds.FieldCount.TheVariants.{Exactly, ByDimension, Between, OnePerSection}
use Rattle.tb_reading.specs.declared.kinds.FieldRule.{FieldRule}
use Rattle.tb_reading.specs.declared.kinds.FieldRule.TheVariants.{Word, Declares, BelongsTo, Uses, UsesOther, Reads, ReadsAbove, ReadsPsi, ReadsPsiFrom}

abbrev pub all_kinds : List RecordKind
all_kinds =
    kind.Environment ∷ kind.Material ∷ kind.Solid ∷ kind.Air ∷ kind.Part ∷ kind.Layer
    ∷ kind.Psi ∷ kind.Length ∷ kind.Chi ∷ kind.Area ∷ kind.Line ∷ []

-- the first field of a record
abbrev pub word : RecordKind → List ℕ
word kind.Environment = codes "env"
word kind.Material = codes "mat"
word kind.Solid = codes "solid"
word kind.Air = codes "air"
word kind.Part = codes "part"
word kind.Layer = codes "layer"
word kind.Psi = codes "psi"
word kind.Length = codes "length"
word kind.Chi = codes "chi"
word kind.Area = codes "area"
word kind.Line = codes "line"

-- the three axes of a box, of which the last may be left out: a lower and an upper coordinate each
abbrev pub span_fields : List FieldRule
span_fields =
    Reads quantity.Length ∷ ReadsAbove quantity.Length ∷ Reads quantity.Length ∷ ReadsAbove quantity.Length
    ∷ Reads quantity.Length ∷ ReadsAbove quantity.Length ∷ []

-- the fields of a record, as many as it may have
abbrev pub fields : RecordKind → List FieldRule
fields kind.Environment = Word ∷ Declares name.Environment ∷ []
fields kind.Material = Word ∷ Declares name.Material ∷ Reads quantity.Conductivity ∷ []
fields kind.Solid = Word ∷ Uses name.Material ∷ span_fields
fields kind.Air = Word ∷ Uses name.Environment ∷ Reads quantity.Resistance ∷ span_fields
fields kind.Part =
    Word ∷ Declares name.Part ∷ Reads quantity.Resistance ∷ Reads quantity.Resistance
    ∷ Reads quantity.Section ∷ Reads quantity.Section ∷ Reads quantity.Section ∷ Reads quantity.Section ∷ []
fields kind.Layer =
    Word ∷ BelongsTo name.Part ∷ Reads quantity.Thickness
    ∷ Uses name.Material ∷ Uses name.Material ∷ Uses name.Material ∷ Uses name.Material ∷ []
fields kind.Psi = Word ∷ Declares name.Psi ∷ Uses name.Environment ∷ UsesOther name.Environment ∷ []
fields kind.Length = Word ∷ BelongsTo name.Psi ∷ Uses name.Part ∷ Reads quantity.Length ∷ []
fields kind.Chi = Word ∷ Declares name.Chi ∷ Uses name.Environment ∷ UsesOther name.Environment ∷ []
fields kind.Area = Word ∷ BelongsTo name.Chi ∷ Uses name.Part ∷ Reads quantity.Area ∷ []
fields kind.Line = Word ∷ BelongsTo name.Chi ∷ ReadsPsi ∷ ReadsPsiFrom ∷ Reads quantity.Length ∷ []

-- how many fields a record has
abbrev pub field_count : RecordKind → FieldCount
field_count kind.Environment = Exactly 2
field_count kind.Material = Exactly 3
field_count kind.Solid = ByDimension 6 8
field_count kind.Air = ByDimension 7 9
field_count kind.Part = Between 4 8
field_count kind.Layer = OnePerSection
field_count kind.Psi = Exactly 4
field_count kind.Length = Exactly 4
field_count kind.Chi = Exactly 4
field_count kind.Area = Exactly 4
field_count kind.Line = Exactly 5

-- the kind of name that a field declares, if there is one that does
abbrev pub declared_in : List FieldRule → Option NameKind
declared_in [] = None
declared_in (Declares k ∷ rules) = Some k
declared_in (_ ∷ rules) = declared_in rules

-- the kind of name that a record declares
abbrev pub declares : RecordKind → Option NameKind
declares k = declared_in (fields k)

-- whether a record stands in a detail of this dimension
abbrev pub is_allowed : ℕ → RecordKind → Bool
is_allowed dimension kind.Psi = dimension == 2
is_allowed dimension kind.Length = dimension == 2
is_allowed dimension kind.Chi = dimension == 3
is_allowed dimension kind.Area = dimension == 3
is_allowed dimension kind.Line = dimension == 3
is_allowed dimension _ = true

-- the decimal places of a number, and so its unit

abbrev pub places : Quantity → ℕ
places quantity.Length = 1
places quantity.Thickness = 1
places quantity.Conductivity = 4
places quantity.Resistance = 4
places quantity.Section = 0
places quantity.Area = 4
