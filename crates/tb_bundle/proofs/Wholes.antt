-- A bundle from its parts: the head, the detail and the records behind it.
use Rattle.std.proofs.Common.{◌≡◌, ◌∙◌, ap, refl, subst, sym, ℕ, List, drop, Option, Some, None, Result, Ok, Err}
use Rattle.tb_detail.specs.declared.Detail.{Detail}
use Rattle.tb_reading.specs.declared.fault.DetailFault.{DetailFault}
use Rattle.tb_detail.specs.Limits.{InLimits}
use Rattle.tb_reading.specs.Reading.{Numbered, detail_reading}
use Rattle.tb_reading.specs.Records.{Row, unless}
use Rattle.tb_case_records.specs.declared.case.CaseProof.{CaseProof}
use Rattle.tb_case_records.specs.declared.fault.BundleFault.{BundleFault}
use Rattle.tb_case_records.specs.declared.fault.BundleFault.TheVariants as bundle
use Rattle.tb_case_records.specs.declared.fault.BundleRefusal.{BundleRefusal}
use Rattle.tb_case_records.specs.declared.fault.BundleRefusal.TheVariants as refusal
use Rattle.tb_case_records.specs.Ahead.{Ahead, IsOnePast, all_ahead}
use Rattle.tb_case_records.specs.Table.{Refuses}
use Rattle.tb_bundle.specs.declared.bundle.Bundle.{Bundle}
use Rattle.tb_bundle.specs.Bodies.{IsBody, body_fault, case_forms, cases_of}
use Rattle.tb_bundle.specs.Bundles.{Reads, behind_head, bundle_reading, head_fault, reading_ahead, with_detail, with_head}
use Rattle.tb_bundle.specs.Details.{IsDetail, body_part, detail_ahead, detail_fault}

module _ (old : Ahead) where
  from_head : (o : Option BundleFault) → head_fault old.ahead ≡ o → reading_ahead old ≡ with_head o old
  from_head o h = ap (λ (p : Option BundleFault). with_head p old) h

  pub head_stop : (e : BundleRefusal) → Refuses (head_fault old.ahead) e → Reads (Err e) (reading_ahead old)
  head_stop (refusal.Fault f) h = from_head (Some f) h
  head_stop refusal.NoMemory h = tt

  module _ (mid : Ahead) (head : head_fault old.ahead ≡ None) (one : IsOnePast old mid) where
    behind : mid ≡ behind_head old
    behind = ap (λ (l : List Numbered). record { ahead = l; total = mid.total }) one.rest ∙ ap (λ (n : ℕ). record { ahead = drop 1 old.ahead; total = n }) one.total

    from_detail : (r : Result Detail DetailFault) → detail_ahead mid ≡ r → reading_ahead old ≡ with_detail (body_part mid.ahead) r
    from_detail r h = from_head None head ∙ ap (λ (a : Ahead). with_detail (body_part a.ahead) (detail_ahead a)) (sym behind) ∙ ap (with_detail (body_part mid.ahead)) h

    pub detail_stop : (e : BundleRefusal) → Refuses (detail_fault (detail_ahead mid)) e → Reads (Err e) (reading_ahead old)
    detail_stop refusal.NoMemory h = tt
    detail_stop (refusal.Fault g) h = by (detail_ahead mid) refl h
      where
        reached : (f : DetailFault) → detail_fault (Err f) ≡ Some g → ◌≡◌ {A = Result Bundle BundleFault} (Err (bundle.Detail f)) (Err g)
        reached f h = cc

        by : (r : Result Detail DetailFault) → detail_ahead mid ≡ r → detail_fault r ≡ Some g → reading_ahead old ≡ Err g
        by (Ok d) e h = cc
        by (Err f) e h = from_detail (Err f) e ∙ reached f h

    module _ (more : Ahead) (d : Detail) (r : IsDetail mid more d) where
      from_body : (o : Option BundleFault) → body_fault d more.ahead ≡ o → reading_ahead old ≡ unless o (record { detail = d; cases = cases_of (case_forms d) more.ahead })
      from_body o h =
          from_detail (Ok d) r.reading
          ∙ ap (λ (given : List Numbered). with_detail given (Ok d)) (sym r.rest)
          ∙ ap (λ (p : Option BundleFault). unless p (let b : Bundle = record { detail = d; cases = cases_of (case_forms d) more.ahead } in b)) h

      pub body_stop : (e : BundleRefusal) → Refuses (body_fault d more.ahead) e → Reads (Err e) (reading_ahead old)
      body_stop (refusal.Fault f) h = from_body (Some f) h
      body_stop refusal.NoMemory h = tt

      pub whole : (proofs : List CaseProof) → IsBody d more.ahead proofs → reading_ahead old ≡ Ok (record { detail = d; cases = proofs })
      whole proofs b = from_body None b.faultless ∙ ap (λ (l : List CaseProof). Ok (record { detail = d; cases = l })) (sym b.said)

-- a detail that was read is within limits
pub read_limits : ((number : ℕ) (given : List Numbered) (d : Detail) → detail_reading number given ≡ Ok d → InLimits d) → (old : Ahead) (d : Detail) → detail_ahead old ≡ Ok d → InLimits d
unfolding detail_ahead
read_limits limits old d h = limits _ _ d h

pub of_records : (rows : List Row) (old : Ahead) (r : Result Bundle BundleRefusal) → old ≡ all_ahead rows → Reads r (reading_ahead old) → Reads r (bundle_reading rows)
unfolding bundle_reading
of_records rows old r e h = subst (λ (a : Ahead). Reads r (reading_ahead a)) e h
