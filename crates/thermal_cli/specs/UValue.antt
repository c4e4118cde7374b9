-- `uvalue`: what it answers to the bytes of a detail, and the text and the status of each answer.
use Rattle.std.specs.Prelude.{◌≡◌, ℕ, List, Result, Ok, Err}
use Rattle.tb_detail.specs.declared.Detail.{Detail}
use Rattle.tb_reading.specs.declared.fault.DetailFault.{DetailFault}
use Rattle.tb_reading.specs.FaultTexts as detail
use Rattle.tb_uvalues.specs.Answers.{HasFault, HaveUValues}
use Rattle.tb_uvalues.specs.Texts as values
use Rattle.thermal_cli.specs.declared.uvalue.UValueAnswer.{UValueAnswer}
use Rattle.thermal_cli.specs.declared.uvalue.UValueAnswer.TheVariants.{FaultOfDetail, FaultOfPart, Values}
use Rattle.thermal_cli.specs.declared.status.Status.{Status}
use Rattle.thermal_cli.specs.declared.status.Status.TheVariants.{Fine, Refused}
use Rattle.thermal_cli.specs.Details.{detail_spelt}

-- this is answered to a detail: the first part that is refused, else the U-values of its parts
abbrev pub AnswersToDetail : Detail → UValueAnswer → Type 0
AnswersToDetail d (FaultOfDetail f) = ⊥
AnswersToDetail d (FaultOfPart f) = HasFault d f
AnswersToDetail d (Values v) = (v ≡ d) × HaveUValues d

-- this is answered to a detail or its first fault
abbrev pub AnswersToReading : Result Detail DetailFault → UValueAnswer → Type 0
AnswersToReading (Err f) a = a ≡ FaultOfDetail f
AnswersToReading (Ok d) a = AnswersToDetail d a

-- this is answered to these bytes
abbrev pub UValueAnswers : List ℕ → UValueAnswer → Type 0
UValueAnswers bytes a = AnswersToReading (detail_spelt bytes) a

abbrev pub uvalue_text : UValueAnswer → List ℕ
uvalue_text (FaultOfDetail f) = detail.fault_text f
uvalue_text (FaultOfPart f) = values.fault_text f
uvalue_text (Values v) = values.list_text v

abbrev pub uvalue_status : UValueAnswer → Status
uvalue_status (FaultOfDetail f) = Refused
uvalue_status (FaultOfPart f) = Refused
uvalue_status (Values v) = Fine
