-- The records of a case are plain.
use Rattle.std.proofs.Common.{◌≡◌, ◌∙◌, refl, ℕ, ◌+◌, ◌≤◌, ◌^◌, true, List, [], ◌∷◌, ◌++◌, All, unsigned_abs, arith}
use Rattle.std.proofs.lemmas.List.Elements.{All-weaker}
use Rattle.std.proofs.lemmas.List.Folds.{list_all-append}
use Rattle.std.specs.List.{flat_map, list_all}
use Rattle.std.specs.Prelude.{IsTrue}
use Rattle.tb_places.specs.declared.AxisName.TheVariants.{X, Y, Z}
use Rattle.tb_detail.specs.declared.Detail.{Detail}
use Rattle.tb_detail.specs.declared.Environment.{Environment}
use Rattle.tb_detail.specs.Limits.{InLimits}
use Rattle.tb_detail.specs.Names.{is_name}
use Rattle.tb_grid.specs.Axis.{interval_count}
use Rattle.tb_records.specs.Plain.{is_plain_record}
use Rattle.tb_reading.specs.Records.{Row}
use Rattle.tb_case_records.specs.declared.case.CaseProof.{CaseProof}
use Rattle.tb_case_records.specs.Cases.{CaseForm}
use Rattle.tb_case_records.specs.Limits.{CaseInLimits, IsNodeValue}
use Rattle.tb_case_records.specs.Rows.{face_reading, node_reading}
use Rattle.tb_case_records.specs.Table.{face_rows, last_of, node_rows}
use Rattle.tb_bundle.specs.Bodies.{case_form, case_forms_from}
use Rattle.tb_bundle.specs.Limits.{CasesInLimits}
use Rattle.tb_bundle_text.specs.Canonical.{case_rows, ends_row, field_rows, flux_rows, verdict_row}
use Rattle.tb_bundle_text.proofs.AxisBack.{in_reach}
use Rattle.tb_bundle_text.proofs.CasesBack.{on_x, on_y, on_z}
use Rattle.tb_bundle_text.proofs.GridRows.{face_rows_are, node_rows_are}
use Rattle.tb_bundle_text.proofs.Plain.{axis_row_plain, case_row_plain, ends_plain, rows_plain, verdict_plain}

pub plain_append : (rows more : List Row) → list_all is_plain_record rows ≡ true → list_all is_plain_record more ≡ true → list_all is_plain_record (rows ++ more) ≡ true
plain_append rows more h k = list_all-append is_plain_record rows more ∙ rw (h, k) refl

module _ (f : CaseForm) (environments : List Environment) (c : CaseProof) (h : CaseInLimits f c) (named : All (λ (e : Environment). IsTrue (is_name e.name)) environments)
    (x : last_of f.x ≤ 500000) (y : last_of f.y ≤ 500000) (z : last_of f.z ≤ 500000) where
  field_plain : list_all is_plain_record (field_rows c.grid c.field) ≡ true
  field_plain = rows_plain node_reading (node_rows (interval_count c.grid.x) (interval_count c.grid.y) (interval_count c.grid.z)) c.field
      (node_rows_are (interval_count c.grid.x) (interval_count c.grid.y) (interval_count c.grid.z))
      (All-weaker IsNodeValue (λ v. unsigned_abs v ≤ 10 ^ 12) (λ v small. let s = small.1 in omega arith) c.field h.field.each)

  flux_plain : list_all is_plain_record (flux_rows c.grid c.flux) ≡ true
  flux_plain = rows_plain face_reading (face_rows (interval_count c.grid.x) (interval_count c.grid.y) (interval_count c.grid.z)) c.flux
      (face_rows_are (interval_count c.grid.x) (interval_count c.grid.y) (interval_count c.grid.z)) h.flux.each

  pub case_plain : list_all is_plain_record (case_rows environments c) ≡ true
  unfolding case_rows
  case_plain =
      let last : list_all is_plain_record (ends_row c.interval ∷ verdict_row c.verdict c.width ∷ []) ≡ true = rw (ends_plain c.interval h.low_end h.high_end, verdict_plain c.verdict c.width h.width) refl in
      let values = plain_append (field_rows c.grid c.field) _ field_plain (plain_append (flux_rows c.grid c.flux) _ flux_plain last) in
      rw (
        case_row_plain c.case.mask environments named,
        axis_row_plain X c.grid.x (in_reach f.x c.grid.x (h.grid.axes X) h.on_x x),
        axis_row_plain Y c.grid.y (in_reach f.y c.grid.y (h.grid.axes Y) h.on_y y),
        axis_row_plain Z c.grid.z (in_reach f.z c.grid.z (h.grid.axes Z) h.on_z z),
      ) values

module _ (d : Detail) (limits : InLimits d) where
  pub cases_plain : (masks : List ℕ) (at : ℕ) (cs : List CaseProof) → CasesInLimits (case_forms_from d at masks) cs
      → list_all is_plain_record (flat_map (case_rows d.environments) cs) ≡ true
  cases_plain [] at [] h = refl
  cases_plain [] at (c ∷ cs) h = absurd h
  cases_plain (mask ∷ masks) at [] h = absurd h
  cases_plain (mask ∷ masks) at (c ∷ cs) h =
      plain_append (case_rows d.environments c) (flat_map (case_rows d.environments) cs)
      (case_plain (case_form d at mask) d.environments c h.0 limits.named.environments.formed (on_x d limits) (on_y d limits) (on_z d limits))
      (cases_plain masks (at + 1) cs h.1)
