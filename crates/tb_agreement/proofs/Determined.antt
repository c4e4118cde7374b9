-- The checker has one answer, except for want of memory.
use Rattle.std.proofs.Common.{◌≡◌, ◌∙◌, ap, refl, sym, List, Some, None, Result, Ok, Err, ◌⊎◌, inl, inr}
use Rattle.tb_reading.specs.Records.{Row}
use Rattle.tb_case_records.specs.declared.fault.BundleFault.{BundleFault}
use Rattle.tb_bundle.specs.declared.bundle.Bundle.{Bundle}
use Rattle.tb_bundle.specs.Bundles.{bundle_reading}
use Rattle.tb_checker.specs.declared.fault.CheckFault.{CheckFault}
use Rattle.tb_checker.specs.declared.fault.CheckRefusal.{CheckRefusal}
use Rattle.tb_checker.specs.declared.fault.CheckRefusal.TheVariants.{Fault, NoMemory}
use Rattle.tb_checker.specs.Faults.{Answers, FirstFault}
use Rattle.tb_agreement.proofs.OneFault.{one_first_fault}

same_bundle : (b c : Bundle) → ◌≡◌ {A = Result Bundle BundleFault} (Ok b) (Ok c) → b ≡ c
same_bundle b c h = cc

pub refused : (rows : List Row) (fault : CheckFault) (result : Result Bundle CheckRefusal) → FirstFault rows (Some fault) → Answers rows result
    → (result ≡ Err (Fault fault)) ⊎ (result ≡ Err NoMemory)
refused rows fault (Ok b) found answers = absurd ((one_first_fault rows).none fault answers.0 found)
refused rows fault (Err (Fault other)) found answers = inl (ap (λ (f : CheckFault). Err (Fault f)) ((one_first_fault rows).one other fault answers found))
refused rows fault (Err NoMemory) found answers = inr refl

pub accepted : (rows : List Row) (bundle : Bundle) (result : Result Bundle CheckRefusal) → FirstFault rows None → bundle_reading rows ≡ Ok bundle → Answers rows result
    → (result ≡ Ok bundle) ⊎ (result ≡ Err NoMemory)
accepted rows bundle (Ok b) right read answers = inl (ap (λ (x : Bundle). Ok x) (same_bundle b bundle (sym answers.1 ∙ read)))
accepted rows bundle (Err (Fault other)) right read answers = absurd ((one_first_fault rows).none other right answers)
accepted rows bundle (Err NoMemory) right read answers = inr refl
