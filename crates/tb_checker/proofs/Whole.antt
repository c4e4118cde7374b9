-- A whole bundle, from its parts.
use Rattle.std.proofs.Common.{◌≡◌, ◌∙◌, ap, refl, sym, subst, ℕ, ◌≤◌, ◌++◌, Bool, true, false, List, length, drop, nat_lt, arith, Option, Some, None, Result, Ok, Err}
use Rattle.std.proofs.lemmas.Bool.{ltb-true}
use Rattle.std.proofs.lemmas.List.{drop-drop, length-append}
use Rattle.std.specs.Option.{option_or}
use Rattle.tb_detail.specs.declared.Detail.{Detail}
use Rattle.tb_geometry.specs.Faults.{IsAccepted}
use Rattle.tb_reading.specs.Reading.{Numbered}
use Rattle.tb_reading.specs.Records.{Row}
use Rattle.tb_reading.specs.declared.fault.DetailFault.{DetailFault}
use Rattle.tb_case_records.specs.declared.case.CaseProof.{CaseProof}
use Rattle.tb_case_records.specs.declared.fault.BundleFault.{BundleFault}
use Rattle.tb_case_records.specs.Ahead.{Ahead, IsOnePast, all_ahead}
use Rattle.tb_case_records.specs.Table.{Expected, first_fault}
use Rattle.tb_case_records.proofs.Taking.{first_of_both}
use Rattle.tb_bundle.specs.Bodies.{IsBody, body_fault, case_forms, cases_table, end_fault, end_table, extra_fault}
use Rattle.tb_bundle.specs.Bundles.{behind_head, bundle_reading, head_fault, reading_ahead}
use Rattle.tb_bundle.specs.declared.bundle.Bundle.{Bundle}
use Rattle.tb_bundle.specs.Details.{IsDetail, body_part, detail_ahead, detail_fault}
use Rattle.tb_bundle.proofs.Wholes.{whole}
use Rattle.tb_checker.specs.declared.fault.CheckRefusal.{CheckRefusal}
use Rattle.tb_checker.specs.declared.fault.CheckRefusal.TheVariants as refusal
use Rattle.tb_checker.specs.Faults.{Answers, AnswersAhead, Finds, FirstFault, IsFaultlessBody, IsFaultlessDetail, OfBody, OfBundle, OfDetail, Records, behind_cases}
use Rattle.tb_checker.proofs.Cases.{no_fault}
use Rattle.tb_checker.proofs.Turns.{by_first, by_second}

-- ---- the records behind a detail

-- behind two tables
behind_both : (es fs : List Expected) (given : List Numbered) → drop (length (es ++ fs)) given ≡ drop (length fs) (drop (length es) given)
behind_both es fs given = ap (λ (n : ℕ). drop n given) (length-append es fs) ∙ sym (drop-drop (length fs) (length es) given)

module _ (d : Detail) (given : List Numbered) (cs : List CaseProof) (h : IsFaultlessBody d given cs) where
  abbrev cases : List Expected
  cases = cases_table (case_forms d) given

  whole_fault_is : option_or (first_fault (cases ++ end_table) given) (extra_fault (drop (length (cases ++ end_table)) given)) ≡ end_fault (behind_cases d given)
  whole_fault_is =
      ap (λ (o : Option BundleFault). option_or o (extra_fault (drop (length (cases ++ end_table)) given))) (first_of_both cases end_table given h.cases)
      ∙ ap (λ (l : List Numbered). option_or (first_fault end_table (behind_cases d given)) (extra_fault l)) (behind_both cases end_table given)

  -- so they are the cases of the detail
  pub are_body : IsAccepted d → IsBody d given cs
  are_body accepted = record { faultless = by (nat_lt (length d.environments) 2) refl; said = h.said }
    where
      by : (b : Bool) → nat_lt (length d.environments) 2 ≡ b → body_fault d given ≡ None
      by true e = absurd (let two : 2 ≤ length d.environments = accepted.environments in let less = ltb-true (length d.environments) 2 e in omega arith)
      by false e = rw e (whole_fault_is ∙ h.ended)

  pub body_right : OfBody d given None
  body_right = (h.right, no_fault (end_fault (behind_cases d given)) h.ended)

-- ---- the whole

module _ (old : Ahead) where
  pub by_head : (e : CheckRefusal) → Finds (Records (head_fault old.ahead)) e → Finds (OfBundle old) e
  by_head e h = by_first (Records (head_fault old.ahead)) (OfDetail (body_part (drop 1 old.ahead)) (detail_ahead (behind_head old))) e h

  module _ (mid : Ahead) (head : head_fault old.ahead ≡ None) (one : IsOnePast old mid) where
    behind : mid ≡ behind_head old
    behind = ap (λ (l : List Numbered). record { ahead = l; total = mid.total }) one.rest ∙ ap (λ (n : ℕ). record { ahead = drop 1 old.ahead; total = n }) one.total

    by_detail : (e : CheckRefusal) → Finds (OfDetail (body_part mid.ahead) (detail_ahead mid)) e → Finds (OfBundle old) e
    by_detail e h = by_second (Records (head_fault old.ahead)) (OfDetail (body_part (drop 1 old.ahead)) (detail_ahead (behind_head old))) e (no_fault (head_fault old.ahead) head)
        (subst (λ (a : Ahead). Finds (OfDetail (body_part a.ahead) (detail_ahead a)) e) behind h)

    pub by_no_detail : (e : CheckRefusal) → Finds (Records (detail_fault (detail_ahead mid))) e → Finds (OfBundle old) e
    by_no_detail refusal.NoMemory h = tt
    by_no_detail (refusal.Fault g) h = by (detail_ahead mid) refl h
      where
        by : (r : Result Detail DetailFault) → detail_ahead mid ≡ r → Records (detail_fault r) (Some g) → Finds (OfBundle old) (refusal.Fault g)
        by (Ok d) e h = cc
        by (Err f) e h = by_detail (refusal.Fault g) (subst (λ (r : Result Detail DetailFault). OfDetail (body_part mid.ahead) r (Some g)) (sym e) h)

    module _ (more : Ahead) (d : Detail) (read : IsDetail mid more d) where
      detail_is : (e : CheckRefusal) → Finds (OfDetail more.ahead (Ok d)) e → Finds (OfDetail (body_part mid.ahead) (detail_ahead mid)) e
      detail_is e h =
          subst (λ (r : Result Detail DetailFault). Finds (OfDetail (body_part mid.ahead) r) e) (sym read.reading)
          (subst (λ (given : List Numbered). Finds (OfDetail given (Ok d)) e) read.rest h)

      pub by_body : (e : CheckRefusal) → Finds (OfDetail more.ahead (Ok d)) e → Finds (OfBundle old) e
      by_body e h = by_detail e (detail_is e h)

      module _ (cs : List CaseProof) (h : IsFaultlessDetail d more.ahead cs) where
        pub no_fault_found : OfBundle old None
        no_fault_found = (
          no_fault (head_fault old.ahead) head,
          subst (λ (a : Ahead). OfDetail (body_part a.ahead) (detail_ahead a) None) behind
              (subst (λ (r : Result Detail DetailFault). OfDetail (body_part mid.ahead) r None) (sym read.reading)
              (subst (λ (given : List Numbered). OfDetail given (Ok d) None) read.rest (h.accepted, body_right d more.ahead cs h.body))),
        )

        pub reading_is : reading_ahead old ≡ Ok (record { detail = d; cases = cs })
        reading_is = whole old mid head one more d read cs (are_body d more.ahead cs h.body h.accepted)

pub of_records : (rows : List Row) (old : Ahead) (r : Result Bundle CheckRefusal) → old ≡ all_ahead rows → AnswersAhead old r → Answers rows r
unfolding FirstFault bundle_reading
of_records rows old (Ok b) e h = subst (λ (a : Ahead). AnswersAhead a (Ok b)) e h
of_records rows old (Err x) e h = subst (λ (a : Ahead). AnswersAhead a (Err x)) e h
