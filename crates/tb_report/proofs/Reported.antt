-- Which bundles have a report.
use Rattle.std.proofs.Common.{◌≡◌, ◌∙◌, ap, refl, ℕ, suc, ◌+◌, ◌*◌, Bool, false, List, [], ◌∷◌, length, None, inl, inr, arith}
use Rattle.std.proofs.lemmas.Bool.{cases_Bool}
use Rattle.std.proofs.lemmas.Bool.Decides.{nat_tests}
use Rattle.std.proofs.lemmas.List.Elements.{All-cons}
use Rattle.std.proofs.lemmas.List.Sums.{fails_before_first}
use Rattle.std.proofs.lemmas.List.{length-map}
use Rattle.std.specs.List.{position_or_len}
use Rattle.std.specs.Prelude.{All, nat_lt, position}
use Rattle.tb_detail.specs.declared.Detail.{Detail}
use Rattle.tb_places.specs.Places.{node_count}
use Rattle.tb_grid.specs.Grid.{counts_of}
use Rattle.tb_geometry.specs.Cases.{case_masks}
use Rattle.tb_geometry.specs.Grids.{CarriesBody}
use Rattle.tb_planar.specs.Printed.{is_ratio_above}
use Rattle.tb_conduct.specs.Pairs.{AreWithin}
use Rattle.tb_case_records.specs.Cases.{CaseForm}
use Rattle.tb_case_records.specs.declared.case.CaseProof.{CaseProof}
use Rattle.tb_bundle.specs.Bodies.{case_forms, case_forms_from}
use Rattle.tb_bundle.specs.Limits.{BundleInLimits, CasesInLimits}
use Rattle.tb_bundle.specs.declared.bundle.Bundle.{Bundle}
use Rattle.tb_checker.specs.Contents.{AreCertified}
use Rattle.tb_report.specs.Limits.{HasReport, half_end}
use Rattle.tb_report.specs.Texts.{intervals_of}
use Rattle.tb_report.proofs.Sources.{all_within}

-- a list without a first item that passes a test has none that passes
none_passes : {A : Type 0} (p : A → Bool) (xs : List A) → None ≡ position p xs → All (λ x. p x ≡ false) xs
none_passes p xs is k d within = elim (cases_Bool (nat_lt (position_or_len p xs) (length xs))) [
  | inl t ↦ absurd (cc (rw t at is))
  | inr f ↦ fails_before_first p xs k d (grind (arith, nat_tests))
]

forms_of_masks : (d : Detail) (number : ℕ) (masks : List ℕ) → length (case_forms_from d number masks) ≡ length masks
forms_of_masks d number [] = refl
forms_of_masks d number (mask ∷ masks) = ap suc (forms_of_masks d (number + 1) masks)

one_each : (fs : List CaseForm) (cs : List CaseProof) → CasesInLimits fs cs → length cs ≡ length fs
one_each [] [] h = refl
one_each [] (c ∷ cs) h = absurd h
one_each (f ∷ fs) [] h = absurd h
one_each (f ∷ fs) (c ∷ cs) h = ap suc (one_each fs cs h.1)

each_fits : (fs : List CaseForm) (cs : List CaseProof) → CasesInLimits fs cs → All (λ c. length c.field ≡ node_count (counts_of c.grid)) cs
each_fits [] [] h = λ k d within. absurd (omega arith)
each_fits [] (c ∷ cs) h = absurd h
each_fits (f ∷ fs) [] h = absurd h
each_fits (f ∷ fs) (c ∷ cs) h = All-cons (λ c. length c.field ≡ node_count (counts_of c.grid)) c cs h.0.field.one_each (each_fits fs cs h.1)

pub has_report : (b : Bundle) → BundleInLimits b → None ≡ position (is_ratio_above b.detail) b.detail.parts → All (λ c. CarriesBody c.grid b.detail) b.cases →
    All (AreWithin (2 * half_end)) (intervals_of b) → HasReport b
has_report b limits unrefused carries sizes = record {
  limits = limits.detail;
  environments = limits.environments;
  unrefused = none_passes (is_ratio_above b.detail) b.detail.parts unrefused;
  intervals = record {
    one_each = length-map b.cases (λ c. c.interval) ∙ one_each (case_forms b.detail) b.cases limits.cases ∙ forms_of_masks b.detail 1 (case_masks (length b.detail.environments));
    sizes = sizes;
  };
  cases = λ k c within. record { carries = carries k c within; fits = each_fits (case_forms b.detail) b.cases limits.cases k c within };
}

pub certified_has_report : (b : Bundle) → AreCertified b → None ≡ position (is_ratio_above b.detail) b.detail.parts → HasReport b
certified_has_report b certified unrefused =
    has_report b certified.limits unrefused (λ k c within. (certified.cases k c within).carries)
    (all_within b.detail certified.limits.detail 1 (case_masks (length b.detail.environments)) b.cases certified.limits.cases certified.cases)
