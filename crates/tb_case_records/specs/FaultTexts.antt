-- What a fault of the records of a bundle prints: one line.
use Rattle.std.specs.Prelude.{ℕ, ◌++◌, List, codes, decimal}
use Rattle.tb_numbers.specs.Texts.{decimal_text}
use Rattle.tb_reading.specs.FaultTexts as detail
use Rattle.tb_case_records.specs.declared.fault.BundleFault.{BundleFault}
use Rattle.tb_case_records.specs.declared.fault.BundleFault.TheVariants as bundle
use Rattle.tb_case_records.specs.declared.fault.RecordPlace.{RecordPlace}
use Rattle.tb_case_records.specs.Table.{letter}

-- a fault of the record of this number, and of a field in it
abbrev pub record_line : List ℕ → ℕ → List ℕ
record_line name n = codes "refused," ++ name ++ codes ",record " ++ decimal n ++ codes "\n"

abbrev pub field_line : List ℕ → RecordPlace → List ℕ
field_line name p = codes "refused," ++ name ++ codes ",record " ++ decimal p.number ++ codes " field " ++ decimal p.field ++ codes "\n"

-- the fault, and its place where it has one: the record and the field, or the case, the axis and the line in mm
abbrev pub fault_text : BundleFault → List ℕ
fault_text (bundle.NotFormat n) = record_line (codes "NotFormat") n
fault_text (bundle.Detail f) = detail.fault_text f
fault_text bundle.NoEnd = codes "refused,NoEnd\n"
fault_text (bundle.Shape n) = record_line (codes "Shape") n
fault_text (bundle.BadNumber p) = field_line (codes "BadNumber") p
fault_text (bundle.ValueOutOfRange p) = field_line (codes "ValueOutOfRange") p
fault_text (bundle.NotRising p) = field_line (codes "NotRising") p
fault_text (bundle.LineOutside p) = field_line (codes "LineOutside") p
fault_text (bundle.GridTooLarge n) = record_line (codes "GridTooLarge") n
fault_text (bundle.LineMissing case axis line) =
    codes "refused,LineMissing,case " ++ decimal case ++ codes " " ++ letter axis ++ codes " " ++ decimal_text 1 line ++ codes "\n"
