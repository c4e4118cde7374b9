-- The text of a whole bundle, put one part behind the other.
use Rattle.std.proofs.Common.{◌≡◌, ◌∙◌, ap, sym, ℕ, ◌+◌, List, [], ◌∷◌, ◌++◌, All, append-nil, Option, length, refl}
use Rattle.std.proofs.lemmas.Grind.{flat_map-append}
use Rattle.std.proofs.lemmas.List.Elements.{All-cons, All-nil}
use Rattle.std.specs.List.{flat_map}
use Rattle.tb_detail.specs.declared.Detail.{Detail}
use Rattle.tb_detail.specs.declared.Environment.{Environment}
use Rattle.tb_outside.proofs.Gathered.{gathers_both, gathers_same}
use Rattle.tb_outside.specs.Buffers.{Gathers}
use Rattle.tb_geometry.specs.Cases.{case_masks}
use Rattle.tb_records.specs.Plain.{record_text, records_text}
use Rattle.tb_canonical.specs.Canonical.{canonical_rows, canonical_text}
use Rattle.tb_case_records.specs.declared.case.CaseProof.{CaseProof}
use Rattle.tb_bundle.specs.declared.bundle.Bundle.{Bundle}
use Rattle.tb_bundle.specs.Bodies.{case_forms_from}
use Rattle.tb_bundle.specs.Limits.{BundleInLimits, CasesInLimits}
use Rattle.tb_bundle_text.specs.Canonical.{bundle_rows, bundle_text, case_rows, end_row, head_row}
use Rattle.tb_bundle_text.specs.Writing.{HasAllValues}

-- cases within limits have all their values
cases_full : (d : Detail) (masks : List ℕ) (at : ℕ) (cs : List CaseProof) → CasesInLimits (case_forms_from d at masks) cs → All HasAllValues cs
cases_full d [] at [] h = All-nil HasAllValues
cases_full d [] at (c ∷ cs) h = absurd h
cases_full d (mask ∷ masks) at [] h = absurd h
cases_full d (mask ∷ masks) at (c ∷ cs) h =
    All-cons HasAllValues c cs (record { field = h.0.field.one_each; flux = h.0.flux.one_each }) (cases_full d masks (at + 1) cs h.1)

pub all_full : (b : Bundle) (cases : List CaseProof) → cases ≡ b.cases → BundleInLimits b → All HasAllValues cases
all_full b cases is h = rw is (cases_full b.detail (case_masks (length b.detail.environments)) 1 b.cases h.cases)

-- the text of records that come in lists
texts_joined : (environments : List Environment) (cs : List CaseProof) → flat_map (λ c. records_text (case_rows environments c)) cs ≡ records_text (flat_map (case_rows environments) cs)
texts_joined environments [] = refl
texts_joined environments (c ∷ cs) =
    ap (λ (t : List ℕ). records_text (case_rows environments c) ++ t) (texts_joined environments cs)
    ∙ sym (flat_map-append record_text (case_rows environments c) (flat_map (case_rows environments) cs))

text_is : (b : Bundle) → record_text head_row
    ++ (canonical_text b.detail ++ (flat_map (λ c. records_text (case_rows b.detail.environments c)) b.cases ++ record_text end_row)) ≡ bundle_text b
unfolding bundle_rows
text_is b =
    let cases = flat_map (case_rows b.detail.environments) b.cases in
    ap (λ (t : List ℕ). record_text head_row ++ t)
    (ap (λ (t : List ℕ). canonical_text b.detail ++ t)
    (ap (λ (t : List ℕ). t ++ record_text end_row) (texts_joined b.detail.environments b.cases)
    ∙ ap (λ (t : List ℕ). records_text cases ++ t) (sym (append-nil (record_text end_row)))
    ∙ sym (flat_map-append record_text cases (end_row ∷ [])))
    ∙ sym (flat_map-append record_text (canonical_rows b.detail) (cases ++ (end_row ∷ []))))

pub bundle_put : {K : Type 0} {h : K → Option (List ℕ)} {f : K → ℕ} {a b1 b2 b3 b : K} {u v1 v2 v3 v : Option (List ℕ)} (bundle : Bundle) (environments : List Environment) (cases : List CaseProof)
    → environments ≡ bundle.detail.environments → cases ≡ bundle.cases
    → Gathers h f a b1 u (record_text head_row) v1
    → Gathers h f b1 b2 v1 (canonical_text bundle.detail) v2
    → Gathers h f b2 b3 v2 (flat_map (λ c. records_text (case_rows environments c)) cases) v3
    → Gathers h f b3 b v3 (record_text end_row) v
    → Gathers h f a b u (bundle_text bundle) v
bundle_put bundle environments cases is are head detail body end =
    gathers_same (text_is bundle) (gathers_both head (gathers_both detail (gathers_both (rw (is, are) at body) end)))
