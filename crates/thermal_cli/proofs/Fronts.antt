-- What stands whole of the intervals of a bundle after a fault of the sink.
use Rattle.std.proofs.Common.{◌≡◌, ◌++◌, ℕ, List, Option, codes, inl, inr, refl, ap, subst}
use Rattle.tb_outside.specs.Outside.{WritesFront}
use Rattle.tb_geometry.specs.FaultTexts as body
use Rattle.tb_geometry.specs.declared.fault.BodyFault.{BodyFault}
use Rattle.tb_geometry.specs.declared.fault.BodyFault.TheVariants.{TooFewEnvironments, NoSolid, TooManyCells, Overlap, Uncovered, Isolated}
use Rattle.tb_case_records.specs.FaultTexts as records
use Rattle.tb_case_records.specs.declared.fault.BundleFault.{BundleFault}
use Rattle.tb_case_records.specs.declared.fault.BundleFault.TheVariants as bundle
use Rattle.tb_checker.specs.Texts.{fault_text}
use Rattle.tb_checker.specs.declared.fault.CheckFault.{CheckFault}
use Rattle.tb_checker.specs.declared.fault.CheckFault.TheVariants as fault
use Rattle.tb_checker.proofs.AcceptedLines.{certified_lines}
use Rattle.thermal_cli.specs.declared.answer.Answer.{Answer}
use Rattle.thermal_cli.specs.declared.check.CheckAnswer.{CheckAnswer}
use Rattle.thermal_cli.specs.declared.check.CheckAnswer.TheVariants as check
use Rattle.thermal_cli.specs.declared.told.Told.TheVariants as told
use Rattle.thermal_cli.specs.declared.words.Command.{Command}
use Rattle.thermal_cli.specs.declared.words.Command.TheVariants.{Check}
use Rattle.thermal_cli.specs.Answers.{Answers, answer_message}
use Rattle.thermal_cli.specs.Check.{CheckAnswers, check_text}
use Rattle.thermal_cli.specs.Outcome.{IsRead, WritesCertifiedFront, WritesFrontOfOne}
use Rattle.thermal_cli.specs.Words.{Names, reads_input}
use Rattle.thermal_cli.proofs.Commands.{one_command}
use Rattle.thermal_cli.proofs.Runs.{was_read}

-- ---- every fault of a bundle begins with the same word

abbrev Refuses : List ℕ → Type 0
Refuses text = (line : List ℕ) × (text ≡ codes "refused," ++ line)

record_refuses : (f : BundleFault) → Refuses (records.fault_text f)
record_refuses (bundle.NotFormat n) = (_, refl)
record_refuses (bundle.Detail f) = (_, refl)
record_refuses bundle.NoEnd = (_, refl)
record_refuses (bundle.Shape n) = (_, refl)
record_refuses (bundle.BadNumber p) = (_, refl)
record_refuses (bundle.ValueOutOfRange p) = (_, refl)
record_refuses (bundle.NotRising p) = (_, refl)
record_refuses (bundle.LineOutside p) = (_, refl)
record_refuses (bundle.GridTooLarge n) = (_, refl)
record_refuses (bundle.LineMissing case axis line) = (_, refl)

body_refuses : (f : BodyFault) → Refuses (body.fault_text f)
body_refuses TooFewEnvironments = (_, refl)
body_refuses NoSolid = (_, refl)
body_refuses (TooManyCells n) = (_, refl)
body_refuses (Overlap i j) = (_, refl)
body_refuses (Uncovered x y z) = (_, refl)
body_refuses (Isolated x y z) = (_, refl)

fault_refuses : (f : CheckFault) → Refuses (fault_text f)
fault_refuses (fault.Bundle f) = record_refuses f
fault_refuses (fault.Body f) = body_refuses f
fault_refuses (fault.OuterFlux n face) = (_, refl)
fault_refuses (fault.Unbalanced n cell sum) = (_, refl)
fault_refuses (fault.SumPastLimit n) = (_, refl)
fault_refuses (fault.IntervalDiffers n claimed found) = (_, refl)
fault_refuses (fault.VerdictDiffers n) = (_, refl)

-- ---- the front that was written

refused_front : (holds_old holds_new : Option (List ℕ)) (text : List ℕ) → Refuses text → WritesFront holds_old holds_new text
    → (line : List ℕ) × WritesFront holds_old holds_new (codes "refused," ++ line)
refused_front holds_old holds_new text (line, e) w = (line, subst (WritesFront holds_old holds_new) e w)

-- of what `check` answers
answer_front : (left_old left_new holds_old holds_new : Option (List ℕ)) (bytes : List ℕ) → IsRead left_old left_new bytes
    → (a : CheckAnswer) → CheckAnswers bytes a → WritesFront holds_old holds_new (check_text a) → WritesCertifiedFront left_old left_new holds_old holds_new
answer_front left_old left_new holds_old holds_new bytes r (check.Fault f) h w = inl (refused_front holds_old holds_new (fault_text f) (fault_refuses f) w)
answer_front left_old left_new holds_old holds_new bytes r (check.Accepted b) h w = inr (bytes, r, b, h, w.0, w.1, certified_lines b w.0 h.2, w.2)

-- of what a run tells, whose words are `check`
pub certified_front : {S : Type 0} (left : S → Option (List ℕ)) (faults : S → ℕ) (words : List (List ℕ)) (a b : S) (holds_old holds_new : Option (List ℕ))
    → Names words Check → WritesFrontOfOne left faults words a b holds_old holds_new → WritesCertifiedFront (left a) (left b) holds_old holds_new
certified_front left faults words a b holds_old holds_new n (told.Usage, o, w) = absurd (o.0 (Check, n))
certified_front left faults words a b holds_old holds_new n (told.NoMemory, o, w) = inl (refused_front holds_old holds_new _ (_, refl) w)
certified_front left faults words a b holds_old holds_new n (told.SourceFault, o, w) = inl (refused_front holds_old holds_new _ (_, refl) w)
certified_front left faults words a b holds_old holds_new n (told.TooLong, o, w) = inl (refused_front holds_old holds_new _ (_, refl) w)
certified_front left faults words a b holds_old holds_new n (told.Answered x, o, w) =
    let c : o.0 ≡ Check = one_command words o.0 Check o.1 n in
    let y : Answers Check o.2 x = subst (λ (d : Command). Answers d o.2 x) c o.4 in
    let f : WritesFront holds_old holds_new (check_text y.0) = subst (λ (z : Answer). WritesFront holds_old holds_new (answer_message z).text) y.1 w in
    answer_front (left a) (left b) holds_old holds_new o.2 (was_read left o.0 a b o.2 (ap reads_input c) o.3) y.0 y.2 f
