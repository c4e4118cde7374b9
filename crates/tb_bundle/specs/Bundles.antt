-- A bundle, or its first fault, as a reading of the records of a text.
use Rattle.std.specs.Prelude.{◌≡◌, Bool, List, [], ◌∷◌, drop, codes, Option, Some, None, Result, Ok, Err, if◌then◌else◌}
use Rattle.tb_detail.specs.declared.Detail.{Detail}
use Rattle.tb_reading.specs.declared.fault.DetailFault.{DetailFault}
use Rattle.tb_reading.specs.Reading.{Numbered}
use Rattle.tb_reading.specs.Records.{Row, unless}
use Rattle.tb_case_records.specs.declared.fault.BundleFault.{BundleFault}
use Rattle.tb_case_records.specs.declared.fault.BundleFault.TheVariants as bundle
use Rattle.tb_case_records.specs.declared.fault.BundleRefusal.{BundleRefusal}
use Rattle.tb_case_records.specs.declared.fault.BundleRefusal.TheVariants as refusal
use Rattle.tb_case_records.specs.Ahead.{Ahead, all_ahead}
use Rattle.tb_case_records.specs.Table.{same_fields}
use Rattle.tb_bundle.specs.declared.bundle.Bundle.{Bundle}
use Rattle.tb_bundle.specs.Bodies.{body_fault, case_forms, cases_of}
use Rattle.tb_bundle.specs.Details.{body_part, detail_ahead}

abbrev pub is_head : Row → Bool
is_head row = same_fields (codes "bundle" ∷ codes "1" ∷ []) row

-- the fault of the head: of the first record
abbrev pub head_fault : List Numbered → Option BundleFault
head_fault [] = Some (bundle.NotFormat 1)
head_fault (r ∷ given) = if is_head r.1 then None else Some (bundle.NotFormat r.0)

-- the bundle of a detail and of the records behind it
abbrev pub with_detail : List Numbered → Result Detail DetailFault → Result Bundle BundleFault
with_detail given (Err f) = Err (bundle.Detail f)
with_detail given (Ok d) = unless (body_fault d given) (record { detail = d; cases = cases_of (case_forms d) given })

-- the records behind the head
abbrev pub behind_head : Ahead → Ahead
behind_head a = record { ahead = drop 1 a.ahead; total = a.total }

abbrev pub with_head : Option BundleFault → Ahead → Result Bundle BundleFault
with_head (Some f) a = Err f
with_head None a = with_detail (body_part (drop 1 a.ahead)) (detail_ahead (behind_head a))

-- the bundle of the records ahead
abbrev pub reading_ahead : Ahead → Result Bundle BundleFault
reading_ahead a = with_head (head_fault a.ahead) a

-- the bundle of these records, or the first fault: of the head, of the detail, of the records behind it
unfoldable pub bundle_reading : List Row → Result Bundle BundleFault
bundle_reading rows = reading_ahead (all_ahead rows)

-- an answer is this reading, unless memory ran out
abbrev pub Reads : Result Bundle BundleRefusal → Result Bundle BundleFault → Type 0
Reads (Ok b) reading = reading ≡ Ok b
Reads (Err (refusal.Fault f)) reading = reading ≡ Err f
Reads (Err refusal.NoMemory) reading = Unit {0}
