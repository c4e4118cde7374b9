-- The records of all cases read back, one case behind the other.
use Rattle.std.proofs.Common.{◌≡◌, ◌∙◌, ap, refl, sym, subst, ℕ, ◌+◌, ◌≤◌, List, [], ◌∷◌, ◌++◌, length, drop, append_assoc, None, length-append}
use Rattle.std.proofs.lemmas.List.{drop-drop}
use Rattle.std.specs.List.{flat_map}
use Rattle.tb_places.specs.declared.AxisName.TheVariants.{X, Y, Z}
use Rattle.tb_detail.specs.declared.Detail.{Detail}
use Rattle.tb_detail.specs.Limits.{InLimits}
use Rattle.tb_geometry.specs.Base.{base_axes, base_lines}
use Rattle.tb_geometry.proofs.LevelGrids.{base_within}
use Rattle.tb_reading.specs.Reading.{Numbered, numbered}
use Rattle.tb_case_records.specs.declared.case.CaseProof.{CaseProof}
use Rattle.tb_case_records.specs.Cases.{CaseForm, case_of, case_table}
use Rattle.tb_case_records.specs.Table.{first_fault, last_of}
use Rattle.tb_case_records.proofs.Taking.{first_of_both}
use Rattle.tb_bundle.specs.Bodies.{behind_case, case_form, case_forms_from, cases_of, cases_table}
use Rattle.tb_bundle.specs.Limits.{CasesInLimits}
use Rattle.tb_bundle_text.specs.Canonical.{case_rows}
use Rattle.tb_bundle_text.proofs.CaseBack.{case_faultless, case_passed, case_said, numbered_append}

-- what the records of cases come to, with more records behind them
pub record AreBack (fs : List CaseForm) (given : List Numbered) (cs : List CaseProof) (more : List Numbered) : Type 0 where
  pub faultless : first_fault (cases_table fs given) given ≡ None
  pub passed : drop (length (cases_table fs given)) given ≡ more
  pub said : cases_of fs given ≡ cs

-- a case, and those behind it
back_behind : (f : CaseForm) (fs : List CaseForm) (c : CaseProof) (cs : List CaseProof) (given rest more : List Numbered)
    → first_fault (case_table f given) given ≡ None → drop (length (case_table f given)) given ≡ rest → case_of f given ≡ c
    → AreBack fs rest cs more → AreBack (f ∷ fs) given (c ∷ cs) more
back_behind f fs c cs given rest more clean past said back =
    let back : AreBack fs (behind_case f given) cs more = subst (λ (l : List Numbered). AreBack fs l cs more) (sym past) back in
    record {
      faultless = first_of_both (case_table f given) (cases_table fs (behind_case f given)) given clean ∙ back.faultless;
      passed = ap (λ (n : ℕ). drop n given) (length-append (case_table f given) (cases_table fs (behind_case f given)))
          ∙ sym (drop-drop (length (cases_table fs (behind_case f given))) (length (case_table f given)) given) ∙ back.passed;
      said = ap (λ (d : CaseProof). d ∷ cases_of fs (behind_case f given)) said ∙ ap (λ (l : List CaseProof). c ∷ l) back.said;
    }

module _ (d : Detail) (limits : InLimits d) where
  pub on_x : last_of (base_lines X d.boxes) ≤ 500000
  on_x = base_within d (base_axes d.boxes) refl limits X

  pub on_y : last_of (base_lines Y d.boxes) ≤ 500000
  on_y = base_within d (base_axes d.boxes) refl limits Y

  pub on_z : last_of (base_lines Z d.boxes) ≤ 500000
  on_z = base_within d (base_axes d.boxes) refl limits Z

  pub cases_back : (masks : List ℕ) (at : ℕ) (cs : List CaseProof) → CasesInLimits (case_forms_from d at masks) cs → (number : ℕ) (more : List Numbered)
      → AreBack (case_forms_from d at masks) (numbered number (flat_map (case_rows d.environments) cs) ++ more) cs more
  cases_back [] at [] h number more = record { faultless = refl; passed = refl; said = refl }
  cases_back [] at (c ∷ cs) h number more = absurd h
  cases_back (mask ∷ masks) at [] h number more = absurd h
  cases_back (mask ∷ masks) at (c ∷ cs) h number more =
      let f = case_form d at mask in
      let rows = case_rows d.environments c in
      let later = flat_map (case_rows d.environments) cs in
      let rest = numbered (number + length rows) later ++ more in
      let same : numbered number rows ++ rest ≡ numbered number (rows ++ later) ++ more =
      sym (append_assoc (numbered number rows) (numbered (number + length rows) later) more) ∙ ap (λ (l : List Numbered). l ++ more) (sym (numbered_append number rows later)) in
      subst (λ (l : List Numbered). AreBack (case_forms_from d at (mask ∷ masks)) l (c ∷ cs) more) same
      (back_behind f (case_forms_from d (at + 1) masks) c cs (numbered number rows ++ rest) rest more
      (case_faultless f d.environments c h.0 refl on_x on_y on_z number rest)
      (case_passed f d.environments c h.0 refl on_x on_y on_z number rest)
      (case_said f d.environments c h.0 refl on_x on_y on_z number rest)
      (cases_back masks (at + 1) cs h.1 (number + length rows) more))
