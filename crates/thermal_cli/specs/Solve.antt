-- `solve`: what it answers with its options to the bytes of a detail, and the text and the status of each answer.
use Rattle.std.specs.Prelude.{◌≡◌, ℕ, ◌++◌, List, Result, Ok, Err, codes, decimal, unwrap_or, if◌then◌else◌}
use Rattle.tb_detail.specs.declared.Detail.{Detail}
use Rattle.tb_reading.specs.declared.fault.DetailFault.{DetailFault}
use Rattle.tb_reading.specs.FaultTexts as detail
use Rattle.tb_bundle.specs.declared.bundle.Bundle.{Bundle}
use Rattle.tb_bundle_text.specs.Canonical.{bundle_text}
use Rattle.tb_checker.specs.Contents.{AreCertified}
use Rattle.tb_grid.specs.Grid.{Axes}
use Rattle.tb_grid.specs.Levels.{IsLevelOf, IsTooLarge}
use Rattle.tb_grid.specs.declared.levels.Grading.{Grading}
use Rattle.tb_grid.specs.declared.levels.GridTooLarge.{GridTooLarge as TooLarge}
use Rattle.tb_grid.specs.declared.levels.GridTooLarge.TheVariants.{Lines, Cells}
use Rattle.tb_geometry.specs.Base.{base_axes}
use Rattle.tb_geometry.specs.Faults.{HasFault, IsAccepted}
use Rattle.tb_geometry.specs.FaultTexts as body
use Rattle.tb_options.specs.Options.{usual_grade, usual_halve}
use Rattle.tb_options.specs.declared.SolveOptions.{SolveOptions}
use Rattle.tb_places.specs.declared.AxisName.{AxisName}
use Rattle.tb_places.specs.declared.AxisName.TheVariants.{X, Y, Z}
use Rattle.tb_solving.specs.declared.cases.Target.{Target}
use Rattle.tb_solving.specs.Solved.{AreSolved, are_done}
use Rattle.thermal_cli.specs.declared.check.CheckAnswer.{CheckAnswer}
use Rattle.thermal_cli.specs.declared.check.CheckAnswer.TheVariants.{Accepted}
use Rattle.thermal_cli.specs.declared.solve.SolveAnswer.{SolveAnswer}
use Rattle.thermal_cli.specs.declared.solve.SolveAnswer.TheVariants.{FaultOfDetail, FaultOfBody, GridTooLarge, Solved}
use Rattle.thermal_cli.specs.declared.status.Status.{Status}
use Rattle.thermal_cli.specs.declared.status.Status.TheVariants.{Fine, Refused, WidthNotReached}
use Rattle.thermal_cli.specs.Check.{Accepts, CheckAnswers}
use Rattle.thermal_cli.specs.Details.{detail_spelt}

-- ---- the answer

-- the options say how the level grid is made; where they don't, the dimension does
abbrev pub grading_of : SolveOptions → ℕ → Grading
grading_of o dimension = record {
  grade = unwrap_or o.grade (usual_grade dimension);
  halve = unwrap_or o.halve (usual_halve dimension);
  dimension = dimension;
}

-- how wide an interval may be, in µW/K, and how many plain passes a case may take on each of two states
abbrev pub target_of : SolveOptions → Target
target_of o = record { width = unwrap_or o.width 10000; sweeps = unwrap_or o.sweeps 200 }

-- A detail is solved to this bundle: all cases in order, each on the level grid that the options say, with the width that
-- they say and a solution for it. No case has a fault, so its interval is sound on every refinement of the body
pub record IsSolvedTo (o : SolveOptions) (d : Detail) (b : Bundle) : Type 0 where
  pub detail : b.detail ≡ d
  pub level : Axes
  pub is_level : IsLevelOf (grading_of o d.dimension) (base_axes d.boxes) level
  pub cases : AreSolved d level (target_of o) b.cases
  pub certified : AreCertified b

-- this is answered to a detail: the first fault of its body, why its level grid is too large, or the bundle that it is
-- solved to
abbrev pub AnswersToDetail : SolveOptions → Detail → SolveAnswer → Type 0
AnswersToDetail o d (FaultOfDetail f) = ⊥
AnswersToDetail o d (FaultOfBody f) = HasFault d f
AnswersToDetail o d (GridTooLarge why) = IsAccepted d × IsTooLarge (grading_of o d.dimension) (base_axes d.boxes) why
AnswersToDetail o d (Solved b) = IsSolvedTo o d b

-- this is answered to a detail or its first fault
abbrev pub AnswersToReading : SolveOptions → Result Detail DetailFault → SolveAnswer → Type 0
AnswersToReading o (Err f) a = a ≡ FaultOfDetail f
AnswersToReading o (Ok d) a = AnswersToDetail o d a

-- this is answered to these bytes
abbrev pub SolveAnswers : SolveOptions → List ℕ → SolveAnswer → Type 0
SolveAnswers o bytes a = AnswersToReading o (detail_spelt bytes) a

-- ---- its text and its status

abbrev pub letter : AxisName → List ℕ
letter X = codes "x"
letter Y = codes "y"
letter Z = codes "z"

-- an axis and how many lines it would have, or how many cells there would be
abbrev pub too_large_text : TooLarge → List ℕ
too_large_text (Lines axis count) = codes "refused,GridTooLarge,lines " ++ letter axis ++ codes " " ++ decimal count ++ codes "\n"
too_large_text (Cells count) = codes "refused,GridTooLarge,cells " ++ decimal count ++ codes "\n"

abbrev pub solve_text : SolveAnswer → List ℕ
solve_text (FaultOfDetail f) = detail.fault_text f
solve_text (FaultOfBody f) = body.fault_text f
solve_text (GridTooLarge why) = too_large_text why
solve_text (Solved b) = bundle_text b

-- of a bundle: whether each interval is as narrow as was wanted
abbrev pub solved_status : Bundle → Status
solved_status b = if are_done b.cases then Fine else WidthNotReached

abbrev pub solve_status : SolveAnswer → Status
solve_status (FaultOfDetail f) = Refused
solve_status (FaultOfBody f) = Refused
solve_status (GridTooLarge why) = Refused
solve_status (Solved b) = solved_status b

-- ---- its text, given to `check`

-- a text has no fault: `check` accepts it as this bundle, and answers nothing else to it
pub record IsAcceptedAs (text : List ℕ) (b : Bundle) : Type 0 where
  pub accepted : Accepts text b
  pub alone : (a : CheckAnswer) → CheckAnswers text a → a ≡ Accepted b
