-- A bundle whose records have no fault is within limits.
use Rattle.std.proofs.Common.{◌≡◌, refl, ◌≤◌, ◌++◌, List, [], ◌∷◌, Bool, true, false, length, nat_lt, None, if◌then◌else◌}
use Rattle.std.proofs.lemmas.Bool.{ltb-false}
use Rattle.tb_detail.specs.declared.Detail.{Detail}
use Rattle.tb_detail.specs.Limits.{InLimits}
use Rattle.tb_reading.specs.Reading.{Numbered}
use Rattle.tb_case_records.specs.declared.case.CaseProof.{CaseProof}
use Rattle.tb_case_records.specs.declared.fault.BundleFault.TheVariants as bundle
use Rattle.tb_case_records.specs.Cases.{CaseForm, case_table}
use Rattle.tb_case_records.specs.Table.{Never, first_fault}
use Rattle.tb_case_records.proofs.GoodCase.{good_case}
use Rattle.tb_case_records.proofs.GoodRows.{good_both}
use Rattle.tb_case_records.proofs.Rising.{impossible, none_both}
use Rattle.tb_bundle.specs.Bodies.{IsBody, behind_case, body_table, case_forms, cases_of, cases_table, end_table}
use Rattle.tb_bundle.specs.Limits.{BundleInLimits, CasesInLimits}

cases_good : (fs : List CaseForm) (given : List Numbered) → first_fault (cases_table fs given) given ≡ None → CasesInLimits fs (cases_of fs given)
cases_good [] given h = tt
cases_good (f ∷ fs) given h =
    let both = good_both (case_table f given) (cases_table fs (behind_case f given)) given h in
    (good_case f given both.0, cases_good fs (behind_case f given) both.1)

never : (given : List Numbered) {P : Type 0} → first_fault (Never ∷ []) given ≡ None → P
never [] h = impossible bundle.NoEnd h
never (r ∷ given) h = impossible (bundle.Shape r.0) h

module _ (d : Detail) (given : List Numbered) where
  abbrev Right : Type 0
  Right = (2 ≤ length d.environments) × CasesInLimits (case_forms d) (cases_of (case_forms d) given)

  body_good : first_fault (body_table d given) given ≡ None → Right
  body_good h = by (nat_lt (length d.environments) 2) refl h
    where
      by : (b : Bool) → nat_lt (length d.environments) 2 ≡ b → first_fault (if b then Never ∷ [] else cases_table (case_forms d) given ++ end_table) given ≡ None → Right
      by true e h = never given h
      by false e h = (ltb-false (length d.environments) 2 e, cases_good (case_forms d) given (good_both (cases_table (case_forms d) given) end_table given h).0)

  pub within : (cs : List CaseProof) → InLimits d → IsBody d given cs → BundleInLimits (record { detail = d; cases = cs })
  within cs limits body =
      let right = body_good (none_both (first_fault (body_table d given) given) _ body.faultless).0 in
      record { detail = limits; environments = right.0; cases = rw body.said right.1 }
