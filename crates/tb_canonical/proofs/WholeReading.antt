-- The canonical records of a detail read back.
use Rattle.std.proofs.Common.{◌≡◌, ◌∙◌, ap, refl, sym, subst, ◌⊎◌, inl, inr, ℕ, ◌+◌, true, false, List, [], ◌∷◌, ◌++◌, length, map, Ok, All, arith}
use Rattle.std.proofs.lemmas.Bool.{ne_eqb}
use Rattle.std.proofs.lemmas.List.Elements.{All-head, All-tail}
use Rattle.std.specs.List.{flat_map, list_all, position_or_len}
use Rattle.csv.specs.Records.{field_at}
use Rattle.tb_records.specs.Plain.{begins_with_mark, is_plain_record}
use Rattle.tb_records.specs.Records.{records_of}
use Rattle.tb_records.proofs.Plain.{plain_records_read_back}
use Rattle.tb_detail.specs.declared.ChiItem.{ChiItem}
use Rattle.tb_detail.specs.declared.Detail.{Detail}
use Rattle.tb_detail.specs.declared.Layer.{Layer}
use Rattle.tb_detail.specs.declared.LineTerm.{LineTerm}
use Rattle.tb_detail.specs.declared.Part.{Part}
use Rattle.tb_detail.specs.declared.PlanarTerm.{PlanarTerm}
use Rattle.tb_detail.specs.declared.PsiItem.{PsiItem}
use Rattle.tb_detail.specs.Limits.{InLimits, PartInLimits}
use Rattle.tb_reading.specs.declared.kinds.RecordKind.TheVariants as kind
use Rattle.tb_reading.specs.declared.records.Said.TheVariants as said
use Rattle.tb_reading.specs.Reading.{detail_reading, is_bare, numbered}
use Rattle.tb_reading.specs.Records.{head_dimension, record_fault, said_by}
use Rattle.tb_canonical.specs.Canonical.{box_row, canonical_rows, canonical_text, chi_rows, environment_row, head_row, layer_row, line_row, material_row, names_in, part_rows, psi_rows, term_row}
use Rattle.tb_canonical.proofs.FieldReading.{one_more, position_none}
use Rattle.tb_canonical.proofs.Runs.{Goes, Runs, nothing, runs_append, runs_each, runs_map, runs_plain, whole_reading}
use Rattle.tb_canonical.proofs.States.{has_dimension, with_boxes, with_chis, with_environments, with_materials, with_parts, with_psis}
use Rattle.tb_canonical.proofs.Entering.{area_goes, box_goes, chi_goes, environment_goes, layer_goes, length_goes, line_goes, material_goes, part_goes, psi_goes}

head_goes : (n : ℕ) → (n ≡ 2) ⊎ (n ≡ 3) → Goes nothing (head_row n) (record nothing { dimension = n })
unfolding head_dimension record_fault said_by field_at
head_goes n (inl e) = subst (λ (n : ℕ). Goes nothing (head_row n) (record nothing { dimension = n })) (sym e) (record { said = said.Head 2; reads = refl; leads = refl; plain = refl })
head_goes n (inr e) = subst (λ (n : ℕ). Goes nothing (head_row n) (record nothing { dimension = n })) (sym e) (record { said = said.Head 3; reads = refl; leads = refl; plain = refl })

module _ (d : Detail) (h : InLimits d) where
  part_runs : (before : List Part) (p : Part) (after : List Part) → before ++ (p ∷ after) ≡ d.parts
      → Runs (with_parts d before) (part_rows (names_in d) p) (with_parts d (before ++ (p ∷ [])))
  part_runs before p after split = (
    with_parts d (before ++ ((record p { layers = [] }) ∷ [])),
    part_goes d h before p after split,
    runs_map (layer_row (names_in d) p.name) (λ (layers : List Layer). with_parts d (before ++ ((record p { layers = layers }) ∷ []))) p.layers
        (layer_goes d h before p after split) [] p.layers refl,
  )

  psi_runs : (before : List PsiItem) (p : PsiItem) (after : List PsiItem) → before ++ (p ∷ after) ≡ d.psis
      → Runs (with_psis d before) (psi_rows (names_in d) p) (with_psis d (before ++ (p ∷ [])))
  psi_runs before p after split = (
    with_psis d (before ++ ((record p { lengths = [] }) ∷ [])),
    psi_goes d h before p after split,
    runs_map (term_row (names_in d) kind.Length p.name) (λ (lengths : List PlanarTerm). with_psis d (before ++ ((record p { lengths = lengths }) ∷ []))) p.lengths
        (length_goes d h before p after split) [] p.lengths refl,
  )

  chi_runs : (before : List ChiItem) (c : ChiItem) (after : List ChiItem) → before ++ (c ∷ after) ≡ d.chis
      → Runs (with_chis d before) (chi_rows (names_in d) c) (with_chis d (before ++ (c ∷ [])))
  chi_runs before c after split = (
    with_chis d (before ++ ((record c { areas = []; lines = [] }) ∷ [])),
    chi_goes d h before c after split,
    runs_append _ (with_chis d (before ++ ((record c { lines = [] }) ∷ []))) _ (map (term_row (names_in d) kind.Area c.name) c.areas) (map (line_row (names_in d) c.name) c.lines)
        (runs_map (term_row (names_in d) kind.Area c.name) (λ (areas : List PlanarTerm). with_chis d (before ++ ((record c { areas = areas; lines = [] }) ∷ []))) c.areas
        (area_goes d h before c after split) [] c.areas refl)
        (runs_map (line_row (names_in d) c.name) (λ (lines : List LineTerm). with_chis d (before ++ ((record c { lines = lines }) ∷ []))) c.lines
        (line_goes d h before c after split) [] c.lines refl),
  )

  records_run : Runs nothing (canonical_rows d) d
  unfolding canonical_rows
  records_run =
      let environments = map (environment_row (names_in d)) d.environments in
      let materials = map (material_row (names_in d)) d.materials in
      let boxes = map (box_row (names_in d) d.dimension) d.boxes in
      let parts = flat_map (part_rows (names_in d)) d.parts in
      let psis = flat_map (psi_rows (names_in d)) d.psis in
      let chis = flat_map (chi_rows (names_in d)) d.chis in (
        with_environments d [],
        head_goes d.dimension h.dimension.known,
        runs_append (with_environments d []) (with_chis d []) d ((((environments ++ materials) ++ boxes) ++ parts) ++ psis) chis
            (runs_append (with_environments d []) (with_psis d []) (with_chis d []) (((environments ++ materials) ++ boxes) ++ parts) psis
            (runs_append (with_environments d []) (with_parts d []) (with_psis d []) ((environments ++ materials) ++ boxes) parts
            (runs_append (with_environments d []) (with_boxes d []) (with_parts d []) (environments ++ materials) boxes
            (runs_append (with_environments d []) (with_materials d []) (with_boxes d []) environments materials
            (runs_map (environment_row (names_in d)) (with_environments d) d.environments (environment_goes d h) [] d.environments refl)
            (runs_map (material_row (names_in d)) (with_materials d) d.materials (material_goes d h) [] d.materials refl))
            (runs_map (box_row (names_in d) d.dimension) (with_boxes d) d.boxes (box_goes d h) [] d.boxes refl))
            (runs_each (part_rows (names_in d)) (with_parts d) d.parts part_runs [] d.parts refl))
            (runs_each (psi_rows (names_in d)) (with_psis d) d.psis psi_runs [] d.psis refl))
            (runs_each (chi_rows (names_in d)) (with_chis d) d.chis chi_runs [] d.chis refl),
      )

  pub canonical_plain : list_all is_plain_record (canonical_rows d) ≡ true
  canonical_plain = runs_plain nothing d (canonical_rows d) records_run

  no_mark : begins_with_mark (canonical_text d) ≡ false
  unfolding canonical_rows
  no_mark = refl

  pub text_reads_back : records_of (canonical_text d) ≡ canonical_rows d
  text_reads_back = plain_records_read_back (canonical_rows d) canonical_plain no_mark

  -- each part has a layer
  no_bare : (parts : List Part) → All (PartInLimits d) parts → position_or_len is_bare parts ≡ length parts
  no_bare [] h = refl
  no_bare (p ∷ parts) h =
      let some = (All-head (PartInLimits d) p parts h).some_layer in
      rw (ne_eqb (length p.layers) 0 (λ e. omega arith))
      (ap (λ (n : ℕ). 1 + n) (no_bare parts (All-tail (PartInLimits d) p parts h)) ∙ one_more (length parts))

  pub canonical_reading : (number first : ℕ) → detail_reading number (numbered first (canonical_rows d)) ≡ Ok d
  canonical_reading number first =
      whole_reading d (canonical_rows d) records_run (has_dimension d.dimension h.dimension.known) (position_none is_bare d.parts (no_bare d.parts h.parts)) number first
