-- What `solve` writes is a bundle that `check` accepts.
use Rattle.std.proofs.Common.{◌≡◌, ◌∙◌, refl, ap, ℕ, ◌^◌, ◌≤◌, arith, Bool, true, false, List, Option, None, Some, Result, Ok, Err}
use Rattle.std.specs.Prelude.{unwrap_or}
use Rattle.tb_records.specs.Records.{records_of}
use Rattle.tb_reading.specs.declared.fault.DetailFault.{DetailFault}
use Rattle.tb_detail.specs.declared.Detail.{Detail}
use Rattle.tb_bundle.specs.declared.bundle.Bundle.{Bundle}
use Rattle.tb_bundle.specs.Bundles.{bundle_reading}
use Rattle.tb_bundle_text.specs.Canonical.{bundle_text}
use Rattle.tb_bundle_text.proofs.WholeBack.{text_back}
use Rattle.tb_checker.specs.Contents.{AreCertified}
use Rattle.tb_checker.specs.Faults.{FirstFault}
use Rattle.tb_agreement.proofs.Accepted.{read_accepted}
use Rattle.tb_agreement.proofs.OneFault.{one_first_fault}
use Rattle.tb_outside.specs.Outside.{Adds}
use Rattle.tb_options.specs.declared.SolveOptions.{SolveOptions}
use Rattle.thermal_cli.specs.declared.check.CheckAnswer.{CheckAnswer}
use Rattle.thermal_cli.specs.declared.check.CheckAnswer.TheVariants.{Accepted, Fault}
use Rattle.thermal_cli.specs.declared.solve.SolveAnswer.{SolveAnswer}
use Rattle.thermal_cli.specs.declared.solve.SolveAnswer.TheVariants as answer
use Rattle.thermal_cli.specs.declared.status.Status.{Status}
use Rattle.thermal_cli.specs.declared.status.Status.TheVariants as status
use Rattle.thermal_cli.specs.Check.{CheckAnswers}
use Rattle.thermal_cli.specs.Details.{detail_spelt}
use Rattle.thermal_cli.specs.Solve.{AnswersToReading, IsAcceptedAs, IsSolvedTo, SolveAnswers, solve_status, solve_text, solved_status}

-- the width that options ask for is at most 10⁹ µW/K
pub width_within : (w : Option ℕ) → ((n : ℕ) → w ≡ Some n → n ≤ 1000000000) → unwrap_or w 10000 ≤ 10 ^ 9
width_within None f = omega arith
width_within (Some n) f = f n refl

-- ---- the text of a certified bundle

module _ (b : Bundle) (certified : AreCertified b) where
  faultless : FirstFault (records_of (bundle_text b)) None
  faultless = read_accepted (records_of (bundle_text b)) b (text_back b certified.limits) certified

  alone : (a : CheckAnswer) → CheckAnswers (bundle_text b) a → a ≡ Accepted b
  alone (Fault f) h = absurd ((one_first_fault (records_of (bundle_text b))).none f faultless h)
  alone (Accepted c) h = ap Accepted (same h.1)
    where
      same : bundle_reading (records_of (bundle_text b)) ≡ Ok c → c ≡ b
      same e = let read = text_back b certified.limits in cc (e, read)

  pub accepted_as : IsAcceptedAs (bundle_text b) b
  accepted_as = record { accepted = (faultless, text_back b certified.limits, certified); alone = alone }

-- ---- what is answered where no fault is

by_reading : (o : SolveOptions) (r : Result Detail DetailFault) (b : Bundle) → AnswersToReading o r (answer.Solved b) → (d : Detail) × (r ≡ Ok d) × IsSolvedTo o d b
by_reading o (Ok d) b h = (d, refl, h)
by_reading o (Err f) b h = absurd (cc h)

not_refused : (s : Status) (is_other : Status → Bool) → is_other s ≡ true → is_other status.Refused ≡ false → s ≡ status.Refused → ⊥
not_refused s is_other t f e = let g : is_other s ≡ false = ap is_other e ∙ f in cc (t, g)

-- an answer with another status than Refused is a bundle
pub solved_bundle : (o : SolveOptions) (bytes : List ℕ) (a : SolveAnswer) (s : Status) (holds_old holds_new : Option (List ℕ)) (is_other : Status → Bool)
    → is_other s ≡ true → is_other status.Refused ≡ false → SolveAnswers o bytes a → s ≡ solve_status a → Adds holds_old holds_new (solve_text a)
    → (d : Detail) × (detail_spelt bytes ≡ Ok d) × (b : Bundle) × IsSolvedTo o d b × IsAcceptedAs (bundle_text b) b × (s ≡ solved_status b) × Adds holds_old holds_new (bundle_text b)
solved_bundle o bytes (answer.FaultOfDetail f) s holds_old holds_new is_other t u h e w = absurd (not_refused s is_other t u e)
solved_bundle o bytes (answer.FaultOfBody f) s holds_old holds_new is_other t u h e w = absurd (not_refused s is_other t u e)
solved_bundle o bytes (answer.GridTooLarge why) s holds_old holds_new is_other t u h e w = absurd (not_refused s is_other t u e)
solved_bundle o bytes (answer.Solved b) s holds_old holds_new is_other t u h e w =
    let (d, is, to) = by_reading o (detail_spelt bytes) b h in (d, is, b, to, accepted_as b to.certified, e, w)
