-- A whole bundle reads back.
use Rattle.std.proofs.Common.{◌≡◌, ◌∙◌, ap, refl, sym, subst, ℕ, ◌+◌, ◌≤◌, true, false, List, [], ◌∷◌, ◌++◌, length, take, drop, Option, None, Ok, length-append}
use Rattle.std.proofs.lemmas.List.{drop-drop}
use Rattle.std.proofs.lemmas.Bool.{le-ltb}
use Rattle.std.specs.List.{flat_map, list_all}
use Rattle.csv.specs.Records.{field_at}
use Rattle.tb_detail.specs.declared.Detail.{Detail}
use Rattle.tb_detail.specs.Limits.{InLimits}
use Rattle.tb_records.specs.Plain.{begins_with_mark, is_plain_record}
use Rattle.tb_records.specs.Records.{records_of}
use Rattle.tb_records.proofs.Plain.{plain_records_read_back}
use Rattle.tb_geometry.specs.Cases.{case_masks}
use Rattle.tb_reading.specs.Reading.{Numbered, detail_reading, numbered}
use Rattle.tb_reading.specs.Records.{Row, unless}
use Rattle.tb_canonical.specs.Canonical.{canonical_rows}
use Rattle.tb_canonical.proofs.WholeReading.{canonical_plain, canonical_reading}
use Rattle.tb_case_records.specs.declared.case.CaseProof.{CaseProof}
use Rattle.tb_case_records.specs.declared.fault.BundleFault.{BundleFault}
use Rattle.tb_case_records.specs.Ahead.{all_ahead}
use Rattle.tb_case_records.specs.Table.{first_fault}
use Rattle.tb_case_records.proofs.Taking.{first_of_both}
use Rattle.tb_bundle.specs.declared.bundle.Bundle.{Bundle}
use Rattle.tb_bundle.specs.Bodies.{body_fault, case_forms, cases_of, cases_table, end_table, extra_fault}
use Rattle.tb_bundle.specs.Bundles.{bundle_reading, reading_ahead, with_detail}
use Rattle.tb_bundle.specs.Details.{body_part, detail_ahead, detail_part}
use Rattle.tb_bundle.specs.Limits.{BundleInLimits}
use Rattle.tb_bundle_text.specs.Canonical.{bundle_rows, bundle_text, case_rows, end_row, head_row}
use Rattle.tb_bundle_text.proofs.CaseBack.{numbered_append}
use Rattle.tb_bundle_text.proofs.CasePlain.{cases_plain, plain_append}
use Rattle.tb_bundle_text.proofs.CasesBack.{AreBack, cases_back}
use Rattle.tb_bundle_text.proofs.Marks.{BeginsBody, Each, IsNoRemark, cases_are, detail_ends, detail_rows_are, each_append, left, none_dropped, of_detail, taken}

-- ---- the records behind the detail

abbrev body_rows : Detail → List CaseProof → List Row
body_rows d cs = flat_map (case_rows d.environments) cs ++ (end_row ∷ [])

body_begins : (d : Detail) (cs : List CaseProof) (number : ℕ) → BeginsBody (numbered number (body_rows d cs))
unfolding case_rows field_at
body_begins d [] number = refl
body_begins d (c ∷ cs) number = refl

-- its records have no fault
module _ (d : Detail) (cs : List CaseProof) (number : ℕ) (some : 2 ≤ length d.environments) where
  abbrev body : List Numbered
  body = numbered number (body_rows d cs)

  abbrev at_end : List Numbered
  at_end = (number + length (flat_map (case_rows d.environments) cs), end_row) ∷ []

  body_is : body ≡ numbered number (flat_map (case_rows d.environments) cs) ++ at_end
  body_is = numbered_append number (flat_map (case_rows d.environments) cs) (end_row ∷ [])

  body_clean : AreBack (case_forms d) body cs at_end → body_fault d body ≡ None
  body_clean back = rw (le-ltb (length d.environments) 2 some) (rw (faultless, extra) refl)
    where
      faultless : first_fault (cases_table (case_forms d) body ++ end_table) body ≡ None
      faultless = first_of_both (cases_table (case_forms d) body) end_table body back.faultless ∙ ap (first_fault end_table) back.passed

      extra : extra_fault (drop (length (cases_table (case_forms d) body ++ end_table)) body) ≡ None
      extra = ap (λ (n : ℕ). extra_fault (drop n body)) (length-append (cases_table (case_forms d) body) end_table)
          ∙ ap extra_fault (sym (drop-drop 1 (length (cases_table (case_forms d) body)) body) ∙ ap (drop 1) back.passed)

-- ---- the detail before them

module _ (d : Detail) (rest : List Numbered) (begins : BeginsBody rest) (number : ℕ) where
  abbrev inside : List Numbered
  inside = numbered number (canonical_rows d) ++ rest

  detail_part_is : detail_part inside ≡ numbered number (canonical_rows d)
  detail_part_is = ap (λ (n : ℕ). take n inside) (detail_ends rest begins number (canonical_rows d) (detail_rows_are d)) ∙ taken number (canonical_rows d) rest

  body_part_is : body_part inside ≡ rest
  body_part_is = ap (λ (n : ℕ). drop n inside) (detail_ends rest begins number (canonical_rows d) (detail_rows_are d)) ∙ left number (canonical_rows d) rest

  detail_said : InLimits d → (total : ℕ) → detail_ahead (record { ahead = inside; total = total }) ≡ Ok d
  unfolding detail_ahead
  detail_said limits total = ap (detail_reading _) detail_part_is ∙ canonical_reading d limits _ number

-- ---- the whole

no_remarks : (b : Bundle) → Each IsNoRemark (bundle_rows b)
unfolding bundle_rows field_at
no_remarks b = (
  refl,
  each_append IsNoRemark (canonical_rows b.detail) (body_rows b.detail b.cases) (of_detail (canonical_rows b.detail) (detail_rows_are b.detail))
      (each_append IsNoRemark (flat_map (case_rows b.detail.environments) b.cases) (end_row ∷ []) (cases_are b.detail.environments b.cases) (refl, tt)),
)

module _ (b : Bundle) (h : BundleInLimits b) where
  abbrev behind : ℕ
  behind = 2 + length (canonical_rows b.detail)

  abbrev body_given : List Numbered
  body_given = numbered behind (body_rows b.detail b.cases)

  rows_are : (numbered 1 (bundle_rows b)) ≡ (1, head_row) ∷ (numbered 2 (canonical_rows b.detail) ++ body_given)
  unfolding bundle_rows
  rows_are = ap (λ (l : List Numbered). (1, head_row) ∷ l) (numbered_append 2 (canonical_rows b.detail) (body_rows b.detail b.cases))

  ahead_is : all_ahead (bundle_rows b) ≡ record { ahead = (1, head_row) ∷ (numbered 2 (canonical_rows b.detail) ++ body_given); total = length (bundle_rows b) }
  ahead_is = ap (λ (l : List Numbered). record { ahead = l; total = length (bundle_rows b) }) (none_dropped 1 (bundle_rows b) (no_remarks b) ∙ rows_are)

  cases_are_back : AreBack (case_forms b.detail) body_given b.cases (at_end b.detail b.cases behind h.environments)
  cases_are_back =
      subst (λ (l : List Numbered). AreBack (case_forms b.detail) l b.cases (at_end b.detail b.cases behind h.environments))
      (sym (body_is b.detail b.cases behind h.environments))
      (cases_back b.detail h.detail (case_masks (length b.detail.environments)) 1 b.cases h.cases behind (at_end b.detail b.cases behind h.environments))

  pub rows_back : bundle_reading (bundle_rows b) ≡ Ok b
  unfolding bundle_reading
  rows_back =
      ap reading_ahead ahead_is
      ∙ ap (with_detail (body_part (numbered 2 (canonical_rows b.detail) ++ body_given)))
      (detail_said b.detail body_given (body_begins b.detail b.cases behind) 2 h.detail (length (bundle_rows b)))
      ∙ ap (λ (l : List Numbered). with_detail l (Ok b.detail)) (body_part_is b.detail body_given (body_begins b.detail b.cases behind) 2)
      ∙ ap (λ (o : Option BundleFault). unless o (let c : Bundle = record { detail = b.detail; cases = cases_of (case_forms b.detail) body_given } in c))
      (body_clean b.detail b.cases behind h.environments cases_are_back)
      ∙ ap (λ (l : List CaseProof). Ok (record { detail = b.detail; cases = l })) cases_are_back.said

  pub rows_plain : list_all is_plain_record (bundle_rows b) ≡ true
  unfolding bundle_rows
  rows_plain =
      plain_append (canonical_rows b.detail) (body_rows b.detail b.cases) (canonical_plain b.detail h.detail)
      (plain_append (flat_map (case_rows b.detail.environments) b.cases) (end_row ∷ [])
      (cases_plain b.detail h.detail (case_masks (length b.detail.environments)) 1 b.cases h.cases) refl)

  no_mark : begins_with_mark (bundle_text b) ≡ false
  unfolding bundle_rows
  no_mark = refl

  pub text_rows : records_of (bundle_text b) ≡ bundle_rows b
  text_rows = plain_records_read_back (bundle_rows b) rows_plain no_mark

  pub text_back : bundle_reading (records_of (bundle_text b)) ≡ Ok b
  text_back = ap bundle_reading text_rows ∙ rows_back
