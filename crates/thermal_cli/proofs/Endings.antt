-- With which status the answers of each command end a run.
use Rattle.std.proofs.Common.{◌≡◌, ◌⊎◌, ℕ, Bool, true, false, List, inl, inr, refl, sym, subst}
use Rattle.std.specs.Prelude.{if◌then◌else◌}
use Rattle.tb_solving.specs.Solved.{are_done, is_done}
use Rattle.tb_options.specs.declared.SolveOptions.{SolveOptions}
use Rattle.thermal_cli.specs.declared.answer.Answer.{Answer}
use Rattle.thermal_cli.specs.declared.check.CheckAnswer.{CheckAnswer}
use Rattle.thermal_cli.specs.declared.check.CheckAnswer.TheVariants as check
use Rattle.thermal_cli.specs.declared.demo.DemoAnswer.{DemoAnswer}
use Rattle.thermal_cli.specs.declared.report.ReportAnswer.{ReportAnswer}
use Rattle.thermal_cli.specs.declared.report.ReportAnswer.TheVariants as report
use Rattle.thermal_cli.specs.declared.solve.SolveAnswer.{SolveAnswer}
use Rattle.thermal_cli.specs.declared.solve.SolveAnswer.TheVariants as solve
use Rattle.thermal_cli.specs.declared.uvalue.UValueAnswer.{UValueAnswer}
use Rattle.thermal_cli.specs.declared.uvalue.UValueAnswer.TheVariants as uvalue
use Rattle.thermal_cli.specs.declared.status.Status.{Status}
use Rattle.thermal_cli.specs.declared.status.Status.TheVariants as status
use Rattle.thermal_cli.specs.declared.words.Command.{Command}
use Rattle.thermal_cli.specs.declared.words.Command.TheVariants.{Check, Report, Solve, UValue, Demo}
use Rattle.thermal_cli.specs.Answers.{Answers, answer_message}
use Rattle.thermal_cli.specs.Check.{check_status}
use Rattle.thermal_cli.specs.Demo.{demo_status}
use Rattle.thermal_cli.specs.Report.{report_status}
use Rattle.thermal_cli.specs.Solve.{solve_status}
use Rattle.thermal_cli.specs.UValue.{uvalue_status}

-- `solve` with some options
abbrev pub IsSolve : Command → Type 0
IsSolve c = (o : SolveOptions) × (c ≡ Solve o)

-- `demo` with some number
abbrev pub IsDemo : Command → Type 0
IsDemo c = (storeys : ℕ) × (c ≡ Demo storeys)

-- none tells a fault of the run itself, only `check` and `report` refuse a certificate, and only `solve` and `demo` miss a width
abbrev pub IsEndingOf : Command → Status → Type 0
IsEndingOf c s = (s ≡ status.Fine) ⊎ ((s ≡ status.Refused) ⊎ (((s ≡ status.WidthNotReached) × (IsSolve c ⊎ IsDemo c)) ⊎ ((s ≡ status.CertificateRefused) × ((c ≡ Check) ⊎ (c ≡ Report)))))

check_ends : (a : CheckAnswer) → IsEndingOf Check (check_status a)
check_ends (check.Fault f) = inr (inr (inr (refl, inl refl)))
check_ends (check.Accepted b) = inl refl

report_ends : (a : ReportAnswer) → IsEndingOf Report (report_status a)
report_ends (report.Fault f) = inr (inr (inr (refl, inr refl)))
report_ends (report.FaultOfPart f) = inr (inl refl)
report_ends (report.Report b) = inl refl

done_or_not : (c : Command) (done : Bool) → IsSolve c ⊎ IsDemo c → IsEndingOf c (if done then status.Fine else status.WidthNotReached)
done_or_not c true searches = inl refl
done_or_not c false searches = inr (inr (inl (refl, searches)))

solve_ends : (o : SolveOptions) (a : SolveAnswer) → IsEndingOf (Solve o) (solve_status a)
solve_ends o (solve.FaultOfDetail f) = inr (inl refl)
solve_ends o (solve.FaultOfBody f) = inr (inl refl)
solve_ends o (solve.GridTooLarge why) = inr (inl refl)
solve_ends o (solve.Solved b) = done_or_not (Solve o) (are_done b.cases) (inl (o, refl))

uvalue_ends : (a : UValueAnswer) → IsEndingOf UValue (uvalue_status a)
uvalue_ends (uvalue.FaultOfDetail f) = inr (inl refl)
uvalue_ends (uvalue.FaultOfPart f) = inr (inl refl)
uvalue_ends (uvalue.Values v) = inl refl

demo_ends : (n : ℕ) (a : DemoAnswer) → IsEndingOf (Demo n) (demo_status a)
demo_ends n a = done_or_not (Demo n) (is_done a.verdict) (inr (n, refl))

-- a line for each command
pub answers_end : (c : Command) (bytes : List ℕ) (a : Answer) → Answers c bytes a → IsEndingOf c (answer_message a).status
answers_end Check bytes a h = subst (λ (b : Answer). IsEndingOf Check (answer_message b).status) (sym h.1) (check_ends h.0)
answers_end Report bytes a h = subst (λ (b : Answer). IsEndingOf Report (answer_message b).status) (sym h.1) (report_ends h.0)
answers_end (Solve o) bytes a h = subst (λ (b : Answer). IsEndingOf (Solve o) (answer_message b).status) (sym h.1) (solve_ends o h.0)
answers_end UValue bytes a h = subst (λ (b : Answer). IsEndingOf UValue (answer_message b).status) (sym h.1) (uvalue_ends h.0)
answers_end (Demo n) bytes a h = subst (λ (b : Answer). IsEndingOf (Demo n) (answer_message b).status) (sym h.1) (demo_ends n h.0)
