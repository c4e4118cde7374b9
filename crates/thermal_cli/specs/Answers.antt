-- What every command answers to the bytes that it read, and what a run tells of each answer: its text and its status.
-- A new command adds a line to both definitions.
use Rattle.std.specs.Prelude.{◌≡◌, ℕ, List}
use Rattle.thermal_cli.specs.declared.answer.Answer.{Answer}
use Rattle.thermal_cli.specs.declared.answer.Answer.TheVariants as answer
use Rattle.thermal_cli.specs.declared.check.CheckAnswer.{CheckAnswer}
use Rattle.thermal_cli.specs.declared.demo.DemoAnswer.{DemoAnswer}
use Rattle.thermal_cli.specs.declared.report.ReportAnswer.{ReportAnswer}
use Rattle.thermal_cli.specs.declared.solve.SolveAnswer.{SolveAnswer}
use Rattle.thermal_cli.specs.declared.uvalue.UValueAnswer.{UValueAnswer}
use Rattle.thermal_cli.specs.declared.words.Command.{Command}
use Rattle.thermal_cli.specs.declared.words.Command.TheVariants.{Check, Report, Solve, UValue, Demo}
use Rattle.thermal_cli.specs.Messages.{Message}
use Rattle.thermal_cli.specs.Check.{CheckAnswers, check_status, check_text}
use Rattle.thermal_cli.specs.Demo.{DemoAnswers, demo_status, demo_text}
use Rattle.thermal_cli.specs.Report.{ReportAnswers, report_status, report_text}
use Rattle.thermal_cli.specs.Solve.{SolveAnswers, solve_status, solve_text}
use Rattle.thermal_cli.specs.UValue.{UValueAnswers, uvalue_status, uvalue_text}

-- a command answers this to these bytes; `demo` the same to all, since it reads none
abbrev pub Answers : Command → List ℕ → Answer → Type 0
Answers Check bytes a = (x : CheckAnswer) × (a ≡ answer.Check x) × CheckAnswers bytes x
Answers Report bytes a = (x : ReportAnswer) × (a ≡ answer.Report x) × ReportAnswers bytes x
Answers (Solve options) bytes a = (x : SolveAnswer) × (a ≡ answer.Solve x) × SolveAnswers options bytes x
Answers UValue bytes a = (x : UValueAnswer) × (a ≡ answer.UValue x) × UValueAnswers bytes x
Answers (Demo storeys) bytes a = (x : DemoAnswer) × (a ≡ answer.Demo x) × DemoAnswers storeys x

abbrev pub answer_message : Answer → Message
answer_message (answer.Check x) = record { text = check_text x; status = check_status x }
answer_message (answer.Report x) = record { text = report_text x; status = report_status x }
answer_message (answer.Solve x) = record { text = solve_text x; status = solve_status x }
answer_message (answer.UValue x) = record { text = uvalue_text x; status = uvalue_status x }
answer_message (answer.Demo x) = record { text = demo_text x; status = demo_status x }
