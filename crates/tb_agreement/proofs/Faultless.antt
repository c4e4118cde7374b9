-- Records without a fault read as a certified bundle.
use Rattle.std.proofs.Common.{◌≡◌, ◌∙◌, ap, refl, List, [], ◌∷◌, drop, Option, Some, None, Result, Ok, Err}
use Rattle.tb_detail.specs.declared.Detail.{Detail}
use Rattle.tb_reading.proofs.Within.{read_in_limits}
use Rattle.tb_reading.specs.Reading.{Numbered}
use Rattle.tb_reading.specs.Records.{Row, unless}
use Rattle.tb_reading.specs.declared.fault.DetailFault.{DetailFault}
use Rattle.tb_case_records.specs.declared.case.CaseProof.{CaseProof}
use Rattle.tb_case_records.specs.declared.fault.BundleFault.{BundleFault}
use Rattle.tb_case_records.specs.declared.fault.BundleFault.TheVariants as bundle
use Rattle.tb_case_records.specs.Ahead.{Ahead, all_ahead}
use Rattle.tb_case_records.specs.Cases.{CaseForm, case_table}
use Rattle.tb_case_records.specs.Table.{first_fault}
use Rattle.tb_case_records.proofs.Taking.{first_of_both}
use Rattle.tb_bundle.specs.declared.bundle.Bundle.{Bundle}
use Rattle.tb_bundle.specs.Bodies.{behind_case, case_forms, cases_of, cases_table, end_fault}
use Rattle.tb_bundle.specs.Bundles.{behind_head, bundle_reading, head_fault, with_detail, with_head}
use Rattle.tb_bundle.specs.Details.{body_part, detail_ahead}
use Rattle.tb_bundle.proofs.Wholes.{read_limits}
use Rattle.tb_checker.specs.Contents.{AreCertified}
use Rattle.tb_checker.specs.Faults.{FirstFault, IsFaultlessDetail, OfCases, OfDetail, Records, behind_cases}
use Rattle.tb_checker.proofs.Certified.{are_certified}
use Rattle.tb_checker.proofs.Whole.{are_body}

none_told : (o : Option BundleFault) → Records o None → o ≡ None
none_told None h = refl
none_told (Some f) h = cc

told : (f : BundleFault) → Records (Some f) None → ⊥
told f h = cc

module _ (d : Detail) where
  cases_clean : (fs : List CaseForm) (given : List Numbered) → OfCases d fs given None → first_fault (cases_table fs given) given ≡ None
  cases_clean [] given h = refl
  cases_clean (f ∷ fs) given h =
      first_of_both (case_table f given) (cases_table fs (behind_case f given)) given (none_told (first_fault (case_table f given) given) h.0.0)
      ∙ cases_clean fs (behind_case f given) h.1

  faultless : (given : List Numbered) → OfDetail given (Ok d) None → IsFaultlessDetail d given (cases_of (case_forms d) given)
  faultless given h = record {
    accepted = h.0;
    body = record {
      cases = cases_clean (case_forms d) given h.1.0;
      said = refl;
      right = h.1.0;
      ended = none_told (end_fault (behind_cases d given)) h.1.1;
    };
  }

-- a reading gives a certified bundle
abbrev Certifies : Result Bundle BundleFault → Type 0
Certifies r = (b : Bundle) × (r ≡ Ok b) × AreCertified b

module _ (a : Ahead) where
  abbrev given : List Numbered
  given = body_part (drop 1 a.ahead)

  of_detail : (r : Result Detail DetailFault) → detail_ahead (behind_head a) ≡ r → OfDetail given r None → Certifies (with_detail given r)
  of_detail (Err f) read h = absurd (told (bundle.Detail f) h)
  of_detail (Ok d) read h =
      let cs : List CaseProof = cases_of (case_forms d) given in
      let whole : IsFaultlessDetail d given cs = faultless d given h in
      let b : Bundle = record { detail = d; cases = cs } in (
        b,
        ap (λ (o : Option BundleFault). unless o b) (are_body d given cs whole.body whole.accepted).faultless,
        are_certified d given cs (read_limits read_in_limits (behind_head a) d read) whole,
      )

  of_head : (o : Option BundleFault) → Records o None → OfDetail given (detail_ahead (behind_head a)) None → Certifies (with_head o a)
  of_head None h k = of_detail (detail_ahead (behind_head a)) refl k
  of_head (Some f) h k = absurd (told f h)

pub reads_certified : (rows : List Row) → FirstFault rows None → (b : Bundle) × (bundle_reading rows ≡ Ok b) × AreCertified b
unfolding FirstFault bundle_reading
reads_certified rows h = of_head (all_ahead rows) (head_fault (all_ahead rows).ahead) h.0 h.1
