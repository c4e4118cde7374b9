-- `report`: what it answers to the bytes of a bundle, and the text and the status of each answer.
use Rattle.std.specs.Prelude.{◌≡◌, ℕ, List, Some, None, position, slice_get}
use Rattle.tb_detail.specs.declared.Detail.{Detail}
use Rattle.tb_detail.specs.declared.Part.{Part}
use Rattle.tb_records.specs.Records.{records_of}
use Rattle.tb_bundle.specs.declared.bundle.Bundle.{Bundle}
use Rattle.tb_planar.specs.Printed.{is_ratio_above}
use Rattle.tb_checker.specs.Faults.{FirstFault}
use Rattle.tb_checker.specs.Texts as check
use Rattle.tb_report.specs.Texts as report
use Rattle.tb_uvalues.specs.Texts as values
use Rattle.tb_uvalues.specs.declared.fault.UValueFault.{UValueFault}
use Rattle.thermal_cli.specs.declared.report.ReportAnswer.{ReportAnswer}
use Rattle.thermal_cli.specs.declared.report.ReportAnswer.TheVariants.{Fault, FaultOfPart, Report}
use Rattle.thermal_cli.specs.declared.status.Status.{Status}
use Rattle.thermal_cli.specs.declared.status.Status.TheVariants.{CertificateRefused, Fine, Refused}
use Rattle.thermal_cli.specs.Check.{Accepts}

-- the first part of a detail whose two limits of the resistance lie too far apart has this name
pub record IsFirstRefused (d : Detail) (f : UValueFault) : Type 0 where
  pub place : ℕ
  pub first : Some place ≡ position (is_ratio_above d) d.parts
  pub part : Part
  pub there : slice_get d.parts place ≡ Some part
  pub named : f.part ≡ part.name

-- this is answered to a bundle without a fault: the first part that is refused, else the report
abbrev pub AnswersToBundle : Bundle → ReportAnswer → Type 0
AnswersToBundle b (Fault f) = ⊥
AnswersToBundle b (FaultOfPart f) = IsFirstRefused b.detail f
AnswersToBundle b (Report r) = (r ≡ b) × (None ≡ position (is_ratio_above b.detail) b.detail.parts)

-- this is answered to these bytes: the first fault of their records, as by `check`, else what is answered to the bundle that
-- they are
abbrev pub ReportAnswers : List ℕ → ReportAnswer → Type 0
ReportAnswers bytes (Fault f) = FirstFault (records_of bytes) (Some f)
ReportAnswers bytes a = (b : Bundle) × Accepts bytes b × AnswersToBundle b a

abbrev pub report_text : ReportAnswer → List ℕ
report_text (Fault f) = check.fault_text f
report_text (FaultOfPart f) = values.fault_text f
report_text (Report b) = report.report_text b

abbrev pub report_status : ReportAnswer → Status
report_status (Fault f) = CertificateRefused
report_status (FaultOfPart f) = Refused
report_status (Report b) = Fine
