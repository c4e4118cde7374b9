-- What a fault of a detail prints: one line.
use Rattle.std.specs.Prelude.{ℕ, zero, suc, ◌++◌, List, [], codes, decimal}
use Rattle.tb_reading.specs.declared.fault.DetailFault.{DetailFault}
use Rattle.tb_reading.specs.declared.fault.DetailKind.{DetailKind}
use Rattle.tb_reading.specs.declared.fault.DetailKind.TheVariants.{NotFormat, UnknownKind, WrongDimension, FieldCount, BadName, NameTwice, UnknownName, SamePair, BadNumber, OutOfRange, Reversed, TooMany, EmptyPart}

abbrev pub kind_text : DetailKind → List ℕ
kind_text NotFormat = codes "NotFormat"
kind_text UnknownKind = codes "UnknownKind"
kind_text WrongDimension = codes "WrongDimension"
kind_text FieldCount = codes "FieldCount"
kind_text BadName = codes "BadName"
kind_text NameTwice = codes "NameTwice"
kind_text UnknownName = codes "UnknownName"
kind_text SamePair = codes "SamePair"
kind_text BadNumber = codes "BadNumber"
kind_text OutOfRange = codes "OutOfRange"
kind_text Reversed = codes "Reversed"
kind_text TooMany = codes "TooMany"
kind_text EmptyPart = codes "EmptyPart"

-- a field, counted from 1; nothing where the fault is of the record as a whole
abbrev pub field_text : ℕ → List ℕ
field_text zero = []
field_text (suc n) = codes " field " ++ decimal (suc n)

-- the fault, and its place: the record and the field
abbrev pub fault_text : DetailFault → List ℕ
fault_text f = codes "refused," ++ kind_text f.kind ++ codes ",record " ++ decimal f.number ++ field_text f.field ++ codes "\n"
