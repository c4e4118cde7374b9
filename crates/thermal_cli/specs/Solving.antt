-- Why a detail isn't solved.
use Rattle.std.specs.Prelude.{◌≡◌, Result, Ok, Err}
use Rattle.tb_detail.specs.declared.Detail.{Detail}
use Rattle.tb_grid.specs.Levels.{IsTooLarge}
use Rattle.tb_geometry.specs.Base.{base_axes}
use Rattle.tb_geometry.specs.Faults.{HasFault, IsAccepted}
use Rattle.tb_options.specs.declared.SolveOptions.{SolveOptions}
use Rattle.tb_records.specs.declared.NoMemory.{NoMemory}
use Rattle.thermal_cli.specs.declared.solve.SolveAnswer.{SolveAnswer}
use Rattle.thermal_cli.specs.declared.solve.SolveAnswer.TheVariants as answer
use Rattle.thermal_cli.specs.declared.solve.Unsolved.{Unsolved}
use Rattle.thermal_cli.specs.declared.solve.Unsolved.TheVariants.{FaultOfBody, GridTooLarge, NoMemory as WantOfMemory}
use Rattle.thermal_cli.specs.Solve.{grading_of}

-- this holds where a detail isn't solved for this cause
abbrev pub RefusesDetail : SolveOptions → Detail → Unsolved → Type 0
RefusesDetail o d (FaultOfBody f) = HasFault d f
RefusesDetail o d (GridTooLarge why) = IsAccepted d × IsTooLarge (grading_of o d.dimension) (base_axes d.boxes) why
RefusesDetail o d WantOfMemory = Unit {0}

-- and this is answered
abbrev pub AnswersAs : Unsolved → Result SolveAnswer NoMemory → Type 0
AnswersAs (FaultOfBody f) r = r ≡ Ok (answer.FaultOfBody f)
AnswersAs (GridTooLarge why) r = r ≡ Ok (answer.GridTooLarge why)
AnswersAs WantOfMemory r = r ≡ Err (record {})
