-- The texts of items with what belongs to them, and of a detail.
use Rattle.std.proofs.Common.{◌≡◌, ◌∙◌, ap, refl, sym, ℕ, List, [], ◌∷◌, ◌++◌, map, append_assoc}
use Rattle.std.proofs.lemmas.Grind.{flat_map-append}
use Rattle.std.specs.List.{flat_map}
use Rattle.tb_records.specs.Plain.{record_text, records_text}
use Rattle.tb_detail.specs.declared.ChiItem.{ChiItem}
use Rattle.tb_detail.specs.declared.Detail.{Detail}
use Rattle.tb_detail.specs.declared.Part.{Part}
use Rattle.tb_detail.specs.declared.PsiItem.{PsiItem}
use Rattle.tb_reading.specs.declared.kinds.RecordKind.TheVariants as kind
use Rattle.tb_reading.specs.Names.{NamesByKind}
use Rattle.tb_reading.specs.Records.{Row}
use Rattle.tb_canonical.specs.Canonical.{box_row, canonical_rows, canonical_text, chi_rows, environment_row, head_row, layer_row, line_row, material_row, names_in, pair_values, part_rows, part_values, psi_rows, row_of, term_row}
use Rattle.tb_canonical.proofs.Joined.{mapped_text}

-- records behind others
then : (xs ys : List Row) (t u : List ℕ) → records_text xs ≡ t → records_text ys ≡ u → records_text (xs ++ ys) ≡ t ++ u
then xs ys t u h k = flat_map-append record_text xs ys ∙ ap (λ (x : List ℕ). x ++ records_text ys) h ∙ ap (λ (x : List ℕ). t ++ x) k

-- the records of items, several for each
each_text : {X : Type 0} (rows : X → List Row) (xs : List X) → records_text (flat_map rows xs) ≡ flat_map (λ x. records_text (rows x)) xs
each_text rows [] = refl
each_text rows (x ∷ xs) =
    flat_map-append record_text (rows x) (flat_map rows xs) ∙ ap (λ (text : List ℕ). records_text (rows x) ++ text) (each_text rows xs)

pub part_text : (names : NamesByKind) (p : Part)
    → record_text (row_of names kind.Part p.name (part_values p)) ++ flat_map (λ layer. record_text (layer_row names p.name layer)) p.layers ≡ records_text (part_rows names p)
part_text names p =
    ap (λ (text : List ℕ). record_text (row_of names kind.Part p.name (part_values p)) ++ text) (sym (mapped_text (layer_row names p.name) p.layers))

pub psi_text : (names : NamesByKind) (p : PsiItem)
    → record_text (row_of names kind.Psi p.name (pair_values p.first p.second)) ++ flat_map (λ term. record_text (term_row names kind.Length p.name term)) p.lengths ≡ records_text (psi_rows names p)
psi_text names p =
    ap (λ (text : List ℕ). record_text (row_of names kind.Psi p.name (pair_values p.first p.second)) ++ text) (sym (mapped_text (term_row names kind.Length p.name) p.lengths))

pub chi_text : (names : NamesByKind) (c : ChiItem)
    → (record_text (row_of names kind.Chi c.name (pair_values c.first c.second)) ++ flat_map (λ term. record_text (term_row names kind.Area c.name term)) c.areas)
    ++ flat_map (λ line. record_text (line_row names c.name line)) c.lines
    ≡ records_text (chi_rows names c)
chi_text names c =
    let head = record_text (row_of names kind.Chi c.name (pair_values c.first c.second)) in
    append_assoc head _ _
    ∙ sym (ap (λ (text : List ℕ). head ++ text)
    (then (map (term_row names kind.Area c.name) c.areas) (map (line_row names c.name) c.lines) _ _
    (mapped_text (term_row names kind.Area c.name) c.areas) (mapped_text (line_row names c.name) c.lines)))

six : (a b c d e f g : List ℕ) → a ++ (((((b ++ c) ++ d) ++ e) ++ f) ++ g) ≡ (((((a ++ b) ++ c) ++ d) ++ e) ++ f) ++ g
six a b c d e f g = simp append_assoc refl

pub detail_text : (d : Detail)
    → (((((record_text (head_row d.dimension)
    ++ flat_map (λ environment. record_text (environment_row (names_in d) environment)) d.environments)
    ++ flat_map (λ material. record_text (material_row (names_in d) material)) d.materials)
    ++ flat_map (λ space. record_text (box_row (names_in d) d.dimension space)) d.boxes)
    ++ flat_map (λ part. records_text (part_rows (names_in d) part)) d.parts)
    ++ flat_map (λ psi. records_text (psi_rows (names_in d) psi)) d.psis)
    ++ flat_map (λ chi. records_text (chi_rows (names_in d) chi)) d.chis
    ≡ canonical_text d
unfolding canonical_rows
detail_text d =
    sym (ap (λ (text : List ℕ). record_text (head_row d.dimension) ++ text)
    (then _ (flat_map (chi_rows (names_in d)) d.chis) _ _
    (then _ (flat_map (psi_rows (names_in d)) d.psis) _ _
    (then _ (flat_map (part_rows (names_in d)) d.parts) _ _
    (then _ (map (box_row (names_in d) d.dimension) d.boxes) _ _
    (then (map (environment_row (names_in d)) d.environments) (map (material_row (names_in d)) d.materials) _ _
    (mapped_text (environment_row (names_in d)) d.environments) (mapped_text (material_row (names_in d)) d.materials))
    (mapped_text (box_row (names_in d) d.dimension) d.boxes))
    (each_text (part_rows (names_in d)) d.parts))
    (each_text (psi_rows (names_in d)) d.psis))
    (each_text (chi_rows (names_in d)) d.chis))
    ∙ six (record_text (head_row d.dimension)) _ _ _ _ _ _)
