-- The records of a bundle's detail: those before the first that begins with `case` or `end`.
use Rattle.std.specs.Prelude.{◌≡◌, ℕ, ◌+◌, ◌||◌, not, Bool, true, false, List, [], ◌∷◌, ◌++◌, take, drop, codes, Option, Some, None, option_map, Result, Ok, Err}
use Rattle.std.specs.List.{prefix_len}
use Rattle.std.specs.Str.{bytes_eq}
use Rattle.tb_detail.specs.declared.Detail.{Detail}
use Rattle.tb_records.specs.Records.{is_remark}
use Rattle.tb_reading.specs.Builders.{Stands}
use Rattle.tb_reading.specs.Progress.{Progress}
use Rattle.tb_reading.specs.declared.fault.DetailFault.{DetailFault}
use Rattle.tb_reading.specs.declared.fault.DetailKind.TheVariants.{NotFormat}
use Rattle.tb_reading.specs.declared.fault.DetailRefusal.{DetailRefusal}
use Rattle.tb_reading.specs.declared.fault.DetailRefusal.TheVariants as detail_refusal
use Rattle.tb_reading.specs.Reading.{Numbered, detail_reading, first_record_fault, rows_of, whole_fault}
use Rattle.tb_reading.specs.Details.{head_of}
use Rattle.tb_reading.specs.Records.{Row, text_at}
use Rattle.tb_case_records.specs.declared.fault.BundleFault.{BundleFault}
use Rattle.tb_case_records.specs.declared.fault.BundleFault.TheVariants as bundle
use Rattle.tb_case_records.specs.declared.fault.BundleRefusal.{BundleRefusal}
use Rattle.tb_case_records.specs.declared.fault.BundleRefusal.TheVariants as refusal
use Rattle.tb_case_records.specs.Ahead.{Ahead}
use Rattle.tb_case_records.specs.Table.{Refuses}

abbrev pub begins_body : Numbered → Bool
begins_body r = bytes_eq (text_at r.1 0) (codes "case") || bytes_eq (text_at r.1 0) (codes "end")

-- how many records the detail has
abbrev pub detail_length : List Numbered → ℕ
detail_length given = prefix_len (λ r. not (begins_body r)) given

-- the records of the detail, and those behind it
abbrev pub detail_part : List Numbered → List Numbered
detail_part given = take (detail_length given) given

abbrev pub body_part : List Numbered → List Numbered
body_part given = drop (detail_length given) given

-- the number of the next record, or of the one behind the last
abbrev pub next_number : ℕ → List Numbered → ℕ
next_number total [] = total + 1
next_number total (r ∷ given) = r.0

-- the detail of the records ahead. Where it has none, the fault bears the number of the record behind it
unfoldable pub detail_ahead : Ahead → Result Detail DetailFault
detail_ahead a = detail_reading (next_number a.total (body_part a.ahead)) (detail_part a.ahead)

-- ---- what reading it answers

abbrev pub refusal_of : DetailRefusal → BundleRefusal
refusal_of (detail_refusal.Fault f) = refusal.Fault (bundle.Detail f)
refusal_of detail_refusal.NoMemory = refusal.NoMemory

-- one more record of the detail is passed, and a builder stands for it too
pub record IsFedOne (old new : Ahead) (b b' : Progress) : Type 0 where
  pub record_fed : Numbered
  pub at : old.ahead ≡ record_fed ∷ new.ahead
  pub total : new.total ≡ old.total
  pub in_detail : begins_body record_fed ≡ false
  pub plain : is_remark record_fed.1 ≡ false
  pub stands : (done : List Numbered) → Stands b done → Stands b' (done ++ record_fed ∷ [])

-- all records of the detail are passed, and a builder stands for them too
pub record IsFed (old new : Ahead) (b b' : Progress) : Type 0 where
  pub rest : new.ahead ≡ body_part old.ahead
  pub total : new.total ≡ old.total
  pub stands : (done : List Numbered) → Stands b done → Stands b' (done ++ detail_part old.ahead)

-- a refusal tells the first fault of a builder's records and of those of the detail ahead
abbrev pub RefusesFed : Ahead → Progress → BundleRefusal → Type 0
RefusesFed old b e = (done : List Numbered) → Stands b done → Refuses (option_map bundle.Detail (first_record_fault (done ++ detail_part old.ahead))) e

abbrev pub FeedsOne : Ahead → Ahead → Progress → Progress → Result Bool BundleRefusal → Type 0
FeedsOne old new b b' (Ok true) = IsFedOne old new b b'
FeedsOne old new b b' (Ok false) = (detail_part old.ahead ≡ []) × ((new ≡ old) × (b' ≡ b))
FeedsOne old new b b' (Err e) = RefusesFed old b e

-- all records of a detail with a head are passed, and a builder stands for them
pub record IsFedDetail (old new : Ahead) (b : Progress) : Type 0 where
  pub rest : new.ahead ≡ body_part old.ahead
  pub total : new.total ≡ old.total
  pub stands : Stands b (detail_part old.ahead)
  pub head : Row
  pub has_head : head_of (rows_of (detail_part old.ahead)) ≡ Some head

pub record IsDetail (old new : Ahead) (d : Detail) : Type 0 where
  pub reading : detail_ahead old ≡ Ok d
  pub rest : new.ahead ≡ body_part old.ahead
  pub total : new.total ≡ old.total

-- the fault of a detail, in its bundle
abbrev pub detail_fault : Result Detail DetailFault → Option BundleFault
detail_fault (Ok d) = None
detail_fault (Err f) = Some (bundle.Detail f)

-- there is no detail where the reader stands
abbrev pub no_detail_fault : Ahead → BundleFault
no_detail_fault a = bundle.Detail (whole_fault NotFormat (next_number a.total a.ahead))
