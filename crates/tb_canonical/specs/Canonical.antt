-- The canonical text of a detail: its records in a fixed order, each written by the table of kinds.
use Rattle.std.specs.Prelude.{ℕ, ◌==◌, List, [], ◌∷◌, ◌++◌, map, codes, slice_index_or, if◌then◌else◌, ℤ}
use Rattle.std.specs.List.{flat_map}
use Rattle.tb_numbers.specs.Texts.{decimal_text, signed_decimal_text}
use Rattle.tb_records.specs.Plain.{records_text}
use Rattle.tb_detail.specs.declared.ChiItem.{ChiItem}
use Rattle.tb_detail.specs.declared.Content.{Content}
use Rattle.tb_detail.specs.declared.Content.TheVariants.{Air, Solid}
use Rattle.tb_detail.specs.declared.Detail.{Detail}
use Rattle.tb_detail.specs.declared.Environment.{Environment}
use Rattle.tb_detail.specs.declared.Layer.{Layer}
use Rattle.tb_detail.specs.declared.LineTerm.{LineTerm}
use Rattle.tb_detail.specs.declared.Material.{Material}
use Rattle.tb_detail.specs.declared.Part.{Part}
use Rattle.tb_detail.specs.declared.PlanarTerm.{PlanarTerm}
use Rattle.tb_detail.specs.declared.PsiItem.{PsiItem}
use Rattle.tb_detail.specs.declared.SpaceBox.{SpaceBox}
use Rattle.tb_detail.specs.declared.Span.{Span}
use Rattle.tb_detail.specs.Names.{Text}
use Rattle.tb_detail.specs.declared.quantity.Quantity.{Quantity}
use Rattle.tb_reading.specs.declared.kinds.FieldRule.{FieldRule}
use Rattle.tb_reading.specs.declared.kinds.FieldRule.TheVariants.{Word, Declares, BelongsTo, Uses, UsesOther, Reads, ReadsAbove, ReadsPsi, ReadsPsiFrom}
use Rattle.tb_reading.specs.declared.kinds.NameKind.TheVariants as name
use Rattle.tb_reading.specs.declared.kinds.RecordKind.{RecordKind}
use Rattle.tb_reading.specs.declared.kinds.RecordKind.TheVariants as kind
use Rattle.tb_reading.specs.declared.values.FieldValue.{FieldValue}
use Rattle.tb_reading.specs.declared.values.FieldValue.TheVariants.{Nothing, Number, Place, Signed}
use Rattle.tb_reading.specs.Kinds.{fields, places, word}
use Rattle.tb_reading.specs.Names.{NamesByKind}
use Rattle.tb_reading.specs.Records.{Row, number_in, place_in, signed_in}

-- ---- names and numbers

-- the names of a detail, kind by kind
abbrev pub names_in : Detail → NamesByKind
names_in d name.Environment = map (λ (e : Environment). e.name) d.environments
names_in d name.Material = map (λ (m : Material). m.name) d.materials
names_in d name.Part = map (λ (p : Part). p.name) d.parts
names_in d name.Psi = map (λ (p : PsiItem). p.name) d.psis
names_in d name.Chi = map (λ (c : ChiItem). c.name) d.chis

-- the name at a place
abbrev pub name_at : List Text → ℕ → Text
name_at names place = slice_index_or names place []

-- a number of a quantity
abbrev pub number : Quantity → ℕ → Text
number q n = decimal_text (places q) n

-- a given ψ
abbrev pub psi_number : ℤ → Text
psi_number z = signed_decimal_text 6 z

-- ---- a record by the table of kinds

-- the text of a field of a record, by its rule. The item of a record is the one that it declares or belongs to.
abbrev pub field_text : NamesByKind → RecordKind → Text → FieldRule → FieldValue → Text
field_text names k item Word v = word k
field_text names k item (Declares of) v = item
field_text names k item (BelongsTo of) v = item
field_text names k item (Uses of) v = name_at (names of) (place_in v)
field_text names k item (UsesOther of) v = name_at (names of) (place_in v)
field_text names k item (Reads q) v = number q (number_in v)
field_text names k item (ReadsAbove q) v = number q (number_in v)
field_text names k item ReadsPsi v = psi_number (signed_in v)
field_text names k item ReadsPsiFrom v = psi_number (signed_in v)

-- the texts of the fields with these values, each by its rule
abbrev pub field_texts : NamesByKind → RecordKind → Text → List FieldRule → List FieldValue → Row
field_texts names k item [] vs = []
field_texts names k item (rule ∷ rules) [] = []
field_texts names k item (rule ∷ rules) (v ∷ vs) = field_text names k item rule v ∷ field_texts names k item rules vs

-- the record of a kind, of the item of this name, with these values behind its word
abbrev pub row_of : NamesByKind → RecordKind → Text → List FieldValue → Row
row_of names k item vs = field_texts names k item (fields k) (Nothing ∷ vs)

-- ---- the values of the things of a detail, behind the word of the record

abbrev pub environment_values : List FieldValue
environment_values = Nothing ∷ []

abbrev pub material_values : Material → List FieldValue
material_values m = Nothing ∷ Number m.lambda ∷ []

-- the coordinates of a box, without those of z in dimension 2
abbrev pub span_values : ℕ → Span → List FieldValue
span_values dimension s =
    Number s.x0 ∷ Number s.x1 ∷ Number s.y0 ∷ Number s.y1 ∷ (if dimension == 2 then [] else Number s.z0 ∷ Number s.z1 ∷ [])

abbrev pub part_values : Part → List FieldValue
part_values p = Nothing ∷ Number p.rsi ∷ Number p.rse ∷ map Number p.areas

abbrev pub layer_values : Layer → List FieldValue
layer_values l = Nothing ∷ Number l.thickness ∷ map Place l.materials

-- the pair of environments of a Ψ or a χ
abbrev pub pair_values : ℕ → ℕ → List FieldValue
pair_values first second = Nothing ∷ Place first ∷ Place second ∷ []

abbrev pub term_values : PlanarTerm → List FieldValue
term_values t = Nothing ∷ Place t.part ∷ Number t.amount ∷ []

abbrev pub line_values : LineTerm → List FieldValue
line_values l = Nothing ∷ Signed l.psi_lo ∷ Signed l.psi_hi ∷ Number l.length ∷ []

-- ---- the records of the things of a detail

-- a dimension, 2 or 3
abbrev pub dimension_text : ℕ → Text
dimension_text dimension = if dimension == 2 then codes "2" else codes "3"

abbrev pub head_row : ℕ → Row
head_row dimension = codes "detail" ∷ codes "1" ∷ dimension_text dimension ∷ []

abbrev pub environment_row : NamesByKind → Environment → Row
environment_row names e = row_of names kind.Environment e.name environment_values

abbrev pub material_row : NamesByKind → Material → Row
material_row names m = row_of names kind.Material m.name (material_values m)

abbrev pub content_row : NamesByKind → ℕ → Content → Span → Row
content_row names dimension (Solid material) s = row_of names kind.Solid [] (Place material ∷ span_values dimension s)
content_row names dimension (Air environment rs) s = row_of names kind.Air [] (Place environment ∷ Number rs ∷ span_values dimension s)

abbrev pub box_row : NamesByKind → ℕ → SpaceBox → Row
box_row names dimension b = content_row names dimension b.content b.span

abbrev pub layer_row : NamesByKind → Text → Layer → Row
layer_row names part l = row_of names kind.Layer part (layer_values l)

-- a term of the Ψ or the χ of this name, as a record of this kind
abbrev pub term_row : NamesByKind → RecordKind → Text → PlanarTerm → Row
term_row names k item t = row_of names k item (term_values t)

-- a line of the χ of this name
abbrev pub line_row : NamesByKind → Text → LineTerm → Row
line_row names item l = row_of names kind.Line item (line_values l)

-- ---- items with what belongs to them

abbrev pub part_rows : NamesByKind → Part → List Row
part_rows names p = row_of names kind.Part p.name (part_values p) ∷ map (layer_row names p.name) p.layers

abbrev pub psi_rows : NamesByKind → PsiItem → List Row
psi_rows names p =
    row_of names kind.Psi p.name (pair_values p.first p.second) ∷ map (term_row names kind.Length p.name) p.lengths

abbrev pub chi_rows : NamesByKind → ChiItem → List Row
chi_rows names c =
    row_of names kind.Chi c.name (pair_values c.first c.second)
    ∷ (map (term_row names kind.Area c.name) c.areas ++ map (line_row names c.name) c.lines)

-- ---- the detail

-- all records of a detail, in order
unfoldable pub canonical_rows : Detail → List Row
canonical_rows d =
    head_row d.dimension
    ∷ (map (environment_row (names_in d)) d.environments
    ++ map (material_row (names_in d)) d.materials
    ++ map (box_row (names_in d) d.dimension) d.boxes
    ++ flat_map (part_rows (names_in d)) d.parts
    ++ flat_map (psi_rows (names_in d)) d.psis
    ++ flat_map (chi_rows (names_in d)) d.chis)

-- the canonical text of a detail
abbrev pub canonical_text : Detail → List ℕ
canonical_text d = records_text (canonical_rows d)
