-- A bundle without a fault is certified, case by case.
use Rattle.std.proofs.Common.{◌≡◌, refl, sym, subst, ℕ, ◌+◌, List, [], ◌∷◌, Option, Some, None, All}
use Rattle.std.proofs.lemmas.List.Elements.{All-cons, All-nil}
use Rattle.tb_detail.specs.declared.Detail.{Detail}
use Rattle.tb_detail.specs.Limits.{InLimits}
use Rattle.tb_model.specs.Energy.{IsBalanced}
use Rattle.tb_model.specs.Refinement.{scene_of}
use Rattle.tb_model.specs.Soundness.{IsSound}
use Rattle.tb_terms.specs.declared.Interval.{Interval}
use Rattle.tb_flux.proofs.Parts.{balanced_in_parts}
use Rattle.tb_reading.specs.Reading.{Numbered}
use Rattle.tb_case_records.specs.declared.case.CaseProof.{CaseProof}
use Rattle.tb_case_records.specs.declared.fault.BundleFault.{BundleFault}
use Rattle.tb_case_records.specs.Cases.{CaseForm, case_of, case_table}
use Rattle.tb_case_records.specs.Table.{first_fault}
use Rattle.tb_case_records.proofs.GoodCase.{good_case}
use Rattle.tb_bundle.specs.Bodies.{behind_case, case_form, case_forms_from, cases_of}
use Rattle.tb_bundle.proofs.GoodBundle.{within}
use Rattle.tb_duality.proofs.BodyEnds.{ends_sound}
use Rattle.tb_checker.specs.Contents.{AreCertified, IsCertifiedCase, IsJudgeable, field_in, flux_in, inside_of, mesh_of}
use Rattle.tb_checker.specs.Faults.{IsFaultlessDetail, OfCase, OfCases, Records}
use Rattle.tb_checker.proofs.Carried.{judgeable}
use Rattle.tb_checker.proofs.Whole.{are_body}

-- a case without a fault
module _ (d : Detail) (limits : InLimits d) (n : ℕ) (c : CaseProof) (can : IsJudgeable d c) where
  pub certified : OfCase d n c None → IsCertifiedCase d c
  unfolding OfCase
  certified (shut, (keeps, (has_ends, (ends, verdict)))) =
      let balanced : IsBalanced (mesh_of d c) (flux_in c) = (balanced_in_parts (mesh_of d c) (flux_in c)).1 (shut, keeps) in
      record {
        carries = can.carries;
        balanced = balanced;
        loss = has_ends;
        ends = ends;
        verdict = verdict;
        sound = subst (λ (i : Interval). IsSound (scene_of d) (inside_of c) i.lo i.hi) (sym ends)
            (ends_sound d limits c.grid c.grid (inside_of c) (field_in c) (flux_in c) can.carries can.carries balanced);
      }

none_told : (o : Option BundleFault) → Records o None → o ≡ None
none_told None h = refl
none_told (Some f) h = cc

-- all cases of a detail
pub all_certified : (d : Detail) → InLimits d → (number : ℕ) (masks : List ℕ) (given : List Numbered) → OfCases d (case_forms_from d number masks) given None
    → All (IsCertifiedCase d) (cases_of (case_forms_from d number masks) given)
all_certified d limits number [] given h = All-nil (IsCertifiedCase d)
all_certified d limits number (mask ∷ masks) given h =
    let f : CaseForm = case_form d number mask in
    All-cons (IsCertifiedCase d) (case_of f given) (cases_of (case_forms_from d (number + 1) masks) (behind_case f given))
    (certified d limits number (case_of f given)
    (judgeable d number mask (case_of f given) limits (good_case f given (none_told (first_fault (case_table f given) given) h.0.0))) h.0.1)
    (all_certified d limits (number + 1) masks (behind_case f given) h.1)

pub are_certified : (d : Detail) (given : List Numbered) (cs : List CaseProof) → InLimits d → IsFaultlessDetail d given cs
    → AreCertified (record { detail = d; cases = cs })
are_certified d given cs limits h = record {
  limits = within d given cs limits (are_body d given cs h.body h.accepted);
  body = h.accepted;
  cases = subst (All (IsCertifiedCase d)) (sym h.body.said) (all_certified d limits 1 _ given h.body.right);
}
