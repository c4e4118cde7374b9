-- Records that read as a certified bundle have no fault.
use Rattle.std.proofs.Common.{◌≡◌, ◌∙◌, ap, refl, sym, subst, ℕ, ◌≤◌, ◌++◌, List, [], ◌∷◌, length, drop, Option, Some, None, Result, Ok, Err, All}
use Rattle.std.proofs.lemmas.Bool.{le-ltb}
use Rattle.std.proofs.lemmas.List.{drop-drop, length-append}
use Rattle.std.proofs.lemmas.List.Elements.{All-head, All-tail}
use Rattle.std.specs.Option.{option_or}
use Rattle.tb_detail.specs.declared.Detail.{Detail}
use Rattle.tb_flux.proofs.Parts.{balanced_in_parts}
use Rattle.tb_flux.specs.Fluxes.{KeepsHeat, ShutsOff}
use Rattle.tb_reading.specs.Reading.{Numbered}
use Rattle.tb_reading.specs.Records.{Row, unless}
use Rattle.tb_reading.specs.declared.fault.DetailFault.{DetailFault}
use Rattle.tb_case_records.specs.declared.case.CaseProof.{CaseProof}
use Rattle.tb_case_records.specs.declared.fault.BundleFault.{BundleFault}
use Rattle.tb_case_records.specs.Ahead.{Ahead, all_ahead}
use Rattle.tb_case_records.specs.Cases.{CaseForm, case_of, case_table}
use Rattle.tb_case_records.specs.Table.{Expected, first_fault}
use Rattle.tb_case_records.proofs.GoodRows.{good_both}
use Rattle.tb_case_records.proofs.Rising.{none_both}
use Rattle.tb_bundle.specs.declared.bundle.Bundle.{Bundle}
use Rattle.tb_bundle.specs.Bodies.{behind_case, body_fault, case_forms, cases_of, cases_table, end_fault, end_table, extra_fault}
use Rattle.tb_bundle.specs.Bundles.{behind_head, bundle_reading, head_fault, with_detail, with_head}
use Rattle.tb_bundle.specs.Details.{body_part, detail_ahead}
use Rattle.tb_checker.specs.Contents.{AreCertified, IsCertifiedCase, flux_in, mesh_of}
use Rattle.tb_checker.specs.Faults.{Condition, FirstFault, OfBody, OfBundle, OfCase, OfCases, OfDetail, behind_cases}
use Rattle.tb_checker.proofs.Cases.{no_fault}

-- ---- cases

module _ (d : Detail) where
  case_right : (n : ℕ) (c : CaseProof) → IsCertifiedCase d c → OfCase d n c None
  unfolding OfCase
  case_right n c h =
      let parts : ShutsOff (mesh_of d c) (flux_in c) × KeepsHeat (mesh_of d c) (flux_in c) = (balanced_in_parts (mesh_of d c) (flux_in c)).0 h.balanced in
      (parts.0, (parts.1, (h.loss, (h.ends, h.verdict))))

  cases_right : (fs : List CaseForm) (given : List Numbered) → first_fault (cases_table fs given) given ≡ None
      → All (IsCertifiedCase d) (cases_of fs given) → OfCases d fs given None
  cases_right [] given clean all = refl
  cases_right (f ∷ fs) given clean all =
      let both = good_both (case_table f given) (cases_table fs (behind_case f given)) given clean in (
        (
          no_fault (first_fault (case_table f given) given) both.0,
          case_right f.number (case_of f given) (All-head (IsCertifiedCase d) (case_of f given) (cases_of fs (behind_case f given)) all),
        ),
        cases_right fs (behind_case f given) both.1 (All-tail (IsCertifiedCase d) (case_of f given) (cases_of fs (behind_case f given)) all),
      )

-- ---- the records behind a detail

module _ (d : Detail) (given : List Numbered) where
  abbrev table : List Expected
  table = cases_table (case_forms d) given

  abbrev rest : List Numbered
  rest = drop (length (table ++ end_table)) given

  rest_is : drop 1 (behind_cases d given) ≡ rest
  rest_is = drop-drop 1 (length table) given ∙ ap (λ (n : ℕ). drop n given) (sym (length-append table end_table))

  body_right : 2 ≤ length d.environments → All (IsCertifiedCase d) (cases_of (case_forms d) given) → body_fault d given ≡ None → OfBody d given None
  body_right some all faultless =
      let clean : option_or (first_fault (table ++ end_table) given) (extra_fault rest) ≡ None = rw (le-ltb (length d.environments) 2 some) at faultless in
      let parts = none_both (first_fault (table ++ end_table) given) (extra_fault rest) clean in
      let both = good_both table end_table given parts.0 in (
        cases_right d (case_forms d) given both.0 all,
        no_fault (end_fault (behind_cases d given))
            (ap (λ (o : Option BundleFault). option_or o (extra_fault (drop 1 (behind_cases d given)))) both.1 ∙ ap extra_fault rest_is ∙ parts.1),
      )

-- ---- the whole

-- where this is a certified bundle, a condition finds no fault
abbrev Gives : Condition → Result Bundle BundleFault → Type 0
Gives Asked (Ok b) = AreCertified b → Asked None
Gives Asked (Err f) = Unit {0}

gives_more : (Asked More : Condition) → (Asked None → More None) → (r : Result Bundle BundleFault) → Gives Asked r → Gives More r
gives_more Asked More more (Ok b) h = λ certified. more (h certified)
gives_more Asked More more (Err f) h = tt

module _ (a : Ahead) where
  abbrev given : List Numbered
  given = body_part (drop 1 a.ahead)

  by_fault : (d : Detail) (o : Option BundleFault) → body_fault d given ≡ o
      → Gives (OfDetail given (Ok d)) (unless o (let b : Bundle = record { detail = d; cases = cases_of (case_forms d) given } in b))
  by_fault d (Some f) e = tt
  by_fault d None e = λ certified. (certified.body, body_right d given certified.body.environments certified.cases e)

  by_detail : (r : Result Detail DetailFault) → Gives (OfDetail given r) (with_detail given r)
  by_detail (Err f) = tt
  by_detail (Ok d) = by_fault d (body_fault d given) refl

  by_head : (o : Option BundleFault) → head_fault a.ahead ≡ o → Gives (OfBundle a) (with_head o a)
  by_head (Some f) e = tt
  by_head None e =
      gives_more (OfDetail given (detail_ahead (behind_head a))) (OfBundle a) (λ h. (no_fault (head_fault a.ahead) e, h))
      (with_detail given (detail_ahead (behind_head a))) (by_detail (detail_ahead (behind_head a)))

pub read_accepted : (rows : List Row) (b : Bundle) → bundle_reading rows ≡ Ok b → AreCertified b → FirstFault rows None
unfolding bundle_reading FirstFault
read_accepted rows b h = subst (λ (r : Result Bundle BundleFault). Gives (OfBundle (all_ahead rows)) r) h (by_head (all_ahead rows) (head_fault (all_ahead rows).ahead) refl)
