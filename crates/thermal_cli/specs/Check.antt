-- `check`: what it answers to the bytes of a bundle, and the text and the status of each answer.
use Rattle.std.specs.Prelude.{◌≡◌, ℕ, List, None, Some, Ok}
use Rattle.tb_records.specs.Records.{records_of}
use Rattle.tb_bundle.specs.Bundles.{bundle_reading}
use Rattle.tb_bundle.specs.declared.bundle.Bundle.{Bundle}
use Rattle.tb_checker.specs.Contents.{AreCertified}
use Rattle.tb_checker.specs.Faults.{FirstFault}
use Rattle.tb_checker.specs.Texts.{accepted_text, fault_text}
use Rattle.thermal_cli.specs.declared.check.CheckAnswer.{CheckAnswer}
use Rattle.thermal_cli.specs.declared.check.CheckAnswer.TheVariants.{Accepted, Fault}
use Rattle.thermal_cli.specs.declared.status.Status.{Status}
use Rattle.thermal_cli.specs.declared.status.Status.TheVariants.{CertificateRefused, Fine}

-- these bytes are this bundle, which has no fault. Each of its cases is certified: its interval is that of its field and of
-- its flux, which is balanced, and is sound on every refinement of the body
abbrev pub Accepts : List ℕ → Bundle → Type 0
Accepts bytes b = FirstFault (records_of bytes) None × (bundle_reading (records_of bytes) ≡ Ok b) × AreCertified b

-- this is answered to these bytes: the first fault of their records, or the bundle that they are, which has none
abbrev pub CheckAnswers : List ℕ → CheckAnswer → Type 0
CheckAnswers bytes (Fault f) = FirstFault (records_of bytes) (Some f)
CheckAnswers bytes (Accepted b) = Accepts bytes b

abbrev pub check_text : CheckAnswer → List ℕ
check_text (Fault f) = fault_text f
check_text (Accepted b) = accepted_text b

abbrev pub check_status : CheckAnswer → Status
check_status (Fault f) = CertificateRefused
check_status (Accepted b) = Fine
