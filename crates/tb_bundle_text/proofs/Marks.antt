-- Which records are remarks, and which begin the cases: none of a detail.
use Rattle.std.proofs.Common.{◌≡◌, ap, refl, ℕ, ℤ, ◌+◌, not, true, false, List, [], ◌∷◌, ◌++◌, length, map, take, drop, arith}
use Rattle.std.specs.List.{flat_map, prefix_len}
use Rattle.csv.specs.Records.{field_at}
use Rattle.tb_detail.specs.declared.ChiItem.{ChiItem}
use Rattle.tb_detail.specs.declared.Content.{Content}
use Rattle.tb_detail.specs.declared.Content.TheVariants.{Air, Solid}
use Rattle.tb_detail.specs.declared.Detail.{Detail}
use Rattle.tb_detail.specs.declared.Environment.{Environment}
use Rattle.tb_detail.specs.declared.Part.{Part}
use Rattle.tb_detail.specs.declared.PsiItem.{PsiItem}
use Rattle.tb_detail.specs.declared.SpaceBox.{SpaceBox}
use Rattle.tb_detail.specs.Names.{Text}
use Rattle.tb_records.specs.Records.{is_remark}
use Rattle.tb_reading.specs.declared.kinds.RecordKind.{RecordKind}
use Rattle.tb_reading.specs.declared.kinds.RecordKind.TheVariants as kind
use Rattle.tb_reading.specs.declared.values.FieldValue.{FieldValue}
use Rattle.tb_reading.specs.declared.values.FieldValue.TheVariants.{Number, Place}
use Rattle.tb_reading.specs.Names.{NamesByKind}
use Rattle.tb_reading.specs.Reading.{Numbered, numbered}
use Rattle.tb_reading.specs.Records.{Row}
use Rattle.tb_places.specs.declared.AxisName.TheVariants.{X, Y, Z}
use Rattle.tb_canonical.specs.Canonical.{box_row, canonical_rows, chi_rows, content_row, environment_row, environment_values, layer_row, layer_values, line_row, line_values, material_row, material_values, names_in, pair_values, part_rows, part_values, psi_rows, row_of, span_values, term_row, term_values}
use Rattle.tb_case_records.specs.declared.case.CaseProof.{CaseProof}
use Rattle.tb_case_records.specs.declared.rows.RowKind.TheVariants.{Nodes, Faces}
use Rattle.tb_case_records.specs.Ahead.{without_remarks}
use Rattle.tb_case_records.specs.Table.{Axis, Ends, Exactly, Expected, Judged, Never, Values}
use Rattle.tb_bundle.specs.Details.{begins_body}
use Rattle.tb_bundle_text.specs.Canonical.{case_rows, ends_row, field_rows, flux_rows, value_count, value_row, value_rows, verdict_row}

-- ---- lists of records

abbrev pub Each : (Row → Type 0) → List Row → Type 0
Each P [] = Unit {0}
Each P (row ∷ rows) = P row × Each P rows

pub each_append : (P : Row → Type 0) (rows more : List Row) → Each P rows → Each P more → Each P (rows ++ more)
each_append P [] more h k = k
each_append P (row ∷ rows) more h k = (h.0, each_append P rows more h.1 k)

each_mapped : {X : Type 0} (P : Row → Type 0) (row : X → Row) → ((x : X) → P (row x)) → (xs : List X) → Each P (map row xs)
each_mapped P row h [] = tt
each_mapped P row h (x ∷ xs) = (h x, each_mapped P row h xs)

each_joined : {X : Type 0} (P : Row → Type 0) (rows : X → List Row) → ((x : X) → Each P (rows x)) → (xs : List X) → Each P (flat_map rows xs)
each_joined P rows h [] = tt
each_joined P rows h (x ∷ xs) = each_append P (rows x) (flat_map rows xs) (h x) (each_joined P rows h xs)

-- ---- the records of a detail

-- no remark, and not the first of a case or the end
pub record IsOfDetail (row : Row) : Type 0 where
  pub no_remark : is_remark row ≡ false
  pub no_body : (n : ℕ) → begins_body (n, row) ≡ false

module _ (names : NamesByKind) where
  of_kind : (k : RecordKind) (item : Text) (values : List FieldValue) → IsOfDetail (row_of names k item values)
  unfolding field_at
  of_kind kind.Environment item values = record { no_remark = refl; no_body = λ n. refl }
  of_kind kind.Material item values = record { no_remark = refl; no_body = λ n. refl }
  of_kind kind.Solid item values = record { no_remark = refl; no_body = λ n. refl }
  of_kind kind.Air item values = record { no_remark = refl; no_body = λ n. refl }
  of_kind kind.Part item values = record { no_remark = refl; no_body = λ n. refl }
  of_kind kind.Layer item values = record { no_remark = refl; no_body = λ n. refl }
  of_kind kind.Psi item values = record { no_remark = refl; no_body = λ n. refl }
  of_kind kind.Length item values = record { no_remark = refl; no_body = λ n. refl }
  of_kind kind.Chi item values = record { no_remark = refl; no_body = λ n. refl }
  of_kind kind.Area item values = record { no_remark = refl; no_body = λ n. refl }
  of_kind kind.Line item values = record { no_remark = refl; no_body = λ n. refl }

  box_of : (dimension : ℕ) (b : SpaceBox) → IsOfDetail (box_row names dimension b)
  box_of dimension b = by b.content
    where
      by : (c : Content) → IsOfDetail (content_row names dimension c b.span)
      by (Solid material) = of_kind kind.Solid [] (Place material ∷ span_values dimension b.span)
      by (Air environment rs) = of_kind kind.Air [] (Place environment ∷ Number rs ∷ span_values dimension b.span)

  part_of : (p : Part) → Each IsOfDetail (part_rows names p)
  part_of p = (
    of_kind kind.Part p.name (part_values p),
    each_mapped IsOfDetail (layer_row names p.name) (λ l. of_kind kind.Layer p.name (layer_values l)) p.layers,
  )

  psi_of : (p : PsiItem) → Each IsOfDetail (psi_rows names p)
  psi_of p = (
    of_kind kind.Psi p.name (pair_values p.first p.second),
    each_mapped IsOfDetail (term_row names kind.Length p.name) (λ t. of_kind kind.Length p.name (term_values t)) p.lengths,
  )

  chi_of : (c : ChiItem) → Each IsOfDetail (chi_rows names c)
  chi_of c = (
    of_kind kind.Chi c.name (pair_values c.first c.second),
    each_append IsOfDetail (map (term_row names kind.Area c.name) c.areas) (map (line_row names c.name) c.lines)
        (each_mapped IsOfDetail (term_row names kind.Area c.name) (λ t. of_kind kind.Area c.name (term_values t)) c.areas)
        (each_mapped IsOfDetail (line_row names c.name) (λ l. of_kind kind.Line c.name (line_values l)) c.lines),
  )

pub detail_rows_are : (d : Detail) → Each IsOfDetail (canonical_rows d)
unfolding canonical_rows field_at
detail_rows_are d =
    let names = names_in d in
    let environments = map (environment_row names) d.environments in
    let materials = map (material_row names) d.materials in
    let boxes = map (box_row names d.dimension) d.boxes in
    let parts = flat_map (part_rows names) d.parts in
    let psis = flat_map (psi_rows names) d.psis in
    let chis = flat_map (chi_rows names) d.chis in
    let P = IsOfDetail in (
      record { no_remark = refl; no_body = λ n. refl },
      (each_append P ((((environments ++ materials) ++ boxes) ++ parts) ++ psis) chis
          (each_append P (((environments ++ materials) ++ boxes) ++ parts) psis
          (each_append P ((environments ++ materials) ++ boxes) parts
          (each_append P (environments ++ materials) boxes
          (each_append P environments materials
          (each_mapped P (environment_row names) (λ e. of_kind names kind.Environment e.name environment_values) d.environments)
          (each_mapped P (material_row names) (λ m. of_kind names kind.Material m.name (material_values m)) d.materials))
          (each_mapped P (box_row names d.dimension) (box_of names d.dimension) d.boxes))
          (each_joined P (part_rows names) (part_of names) d.parts))
          (each_joined P (psi_rows names) (psi_of names) d.psis))
          (each_joined P (chi_rows names) (chi_of names) d.chis)),
    )

-- ---- the records of cases

abbrev pub IsNoRemark : Row → Type 0
IsNoRemark row = is_remark row ≡ false

value_row_is : (e : Expected) (values : List ℤ) → IsNoRemark (value_row e values)
unfolding field_at
value_row_is (Exactly fields) values = refl
value_row_is (Axis case axis bases cells) values = refl
value_row_is Ends values = refl
value_row_is Judged values = refl
value_row_is Never values = refl
value_row_is (Values Nodes count) values = refl
value_row_is (Values (Faces X) count) values = refl
value_row_is (Values (Faces Y) count) values = refl
value_row_is (Values (Faces Z) count) values = refl

value_rows_are : (es : List Expected) (values : List ℤ) → Each IsNoRemark (value_rows es values)
value_rows_are [] values = tt
value_rows_are (e ∷ es) values = (value_row_is e (take (value_count e) values), value_rows_are es (drop (value_count e) values))

pub case_rows_are : (environments : List Environment) (c : CaseProof) → Each IsNoRemark (case_rows environments c)
unfolding case_rows field_at
case_rows_are environments c =
    let last : Each IsNoRemark (ends_row c.interval ∷ verdict_row c.verdict c.width ∷ []) = (refl, (refl, tt)) in (
      refl,
      (
        refl,
        (
          refl,
          (
            refl,
            each_append IsNoRemark (field_rows c.grid c.field) (flux_rows c.grid c.flux ++ (ends_row c.interval ∷ verdict_row c.verdict c.width ∷ [])) (value_rows_are _ c.field)
                (each_append IsNoRemark (flux_rows c.grid c.flux) (ends_row c.interval ∷ verdict_row c.verdict c.width ∷ []) (value_rows_are _ c.flux) last),
          ),
        ),
      ),
    )

pub cases_are : (environments : List Environment) (cs : List CaseProof) → Each IsNoRemark (flat_map (case_rows environments) cs)
cases_are environments cs = each_joined IsNoRemark (case_rows environments) (case_rows_are environments) cs

-- ---- what follows for numbered records

pub of_detail : (rows : List Row) → Each IsOfDetail rows → Each IsNoRemark rows
of_detail [] h = tt
of_detail (row ∷ rows) h = (h.0.no_remark, of_detail rows h.1)

pub none_dropped : (number : ℕ) (rows : List Row) → Each IsNoRemark rows → without_remarks (numbered number rows) ≡ numbered number rows
none_dropped number [] h = refl
none_dropped number (row ∷ rows) h =
    rw h.0 (ap (λ (l : List Numbered). (number, row) ∷ l) (none_dropped (number + 1) rows h.1))

-- the first of them begins a case, or is the end
abbrev pub BeginsBody : List Numbered → Type 0
BeginsBody [] = ⊥
BeginsBody (r ∷ rest) = begins_body r ≡ true

-- the records of a detail, and such ones behind it
pub detail_ends : (rest : List Numbered) → BeginsBody rest → (number : ℕ) (rows : List Row) → Each IsOfDetail rows
    → prefix_len (λ r. not (begins_body r)) (numbered number rows ++ rest) ≡ length rows
detail_ends [] begins number rows h = absurd begins
detail_ends (r ∷ rest) begins number [] h = rw begins refl
detail_ends (r ∷ rest) begins number (row ∷ rows) h =
    rw (h.0.no_body number) (let more = detail_ends (r ∷ rest) begins (number + 1) rows h.1 in omega (arith, more))

pub taken : (number : ℕ) (rows : List Row) (rest : List Numbered) → take (length rows) (numbered number rows ++ rest) ≡ numbered number rows
taken number [] rest = refl
taken number (row ∷ rows) rest = ap (λ (l : List Numbered). (number, row) ∷ l) (taken (number + 1) rows rest)

pub left : (number : ℕ) (rows : List Row) (rest : List Numbered) → drop (length rows) (numbered number rows ++ rest) ≡ rest
left number [] rest = refl
left number (row ∷ rows) rest = left (number + 1) rows rest
