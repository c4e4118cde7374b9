-- The detail of a list of records, selected from the whole list.
use Rattle.std.specs.Prelude.{ℕ, ◌+◌, ◌&&◌, ◌||◌, not, Bool, true, false, List, [], ◌∷◌, map, drop, filter, Option, Some, slice_index_or}
use Rattle.std.specs.List.{enumerate_from, find}
use Rattle.std.specs.Option.{option_and_then, option_map_or}
use Rattle.tb_records.specs.Records.{is_remark}
use Rattle.tb_detail.specs.declared.ChiItem.{ChiItem}
use Rattle.tb_detail.specs.declared.Content.TheVariants.{Air, Solid}
use Rattle.tb_detail.specs.declared.Detail.{Detail}
use Rattle.tb_detail.specs.declared.Environment.{Environment}
use Rattle.tb_detail.specs.declared.Layer.{Layer}
use Rattle.tb_detail.specs.declared.limits.TheConstants.{FLAT_HEIGHT}
use Rattle.tb_detail.specs.declared.LineTerm.{LineTerm}
use Rattle.tb_detail.specs.declared.Material.{Material}
use Rattle.tb_detail.specs.declared.Part.{Part}
use Rattle.tb_detail.specs.declared.PlanarTerm.{PlanarTerm}
use Rattle.tb_detail.specs.declared.PsiItem.{PsiItem}
use Rattle.tb_detail.specs.declared.SpaceBox.{SpaceBox}
use Rattle.tb_detail.specs.declared.Span.{Span}
use Rattle.tb_reading.specs.declared.kinds.RecordKind.{RecordKind}
use Rattle.tb_reading.specs.declared.kinds.RecordKind.TheVariants as kind
use Rattle.tb_reading.specs.declared.kinds.NameKind.{NameKind}
use Rattle.tb_reading.specs.declared.values.FieldValue.{FieldValue}
use Rattle.tb_reading.specs.declared.values.FieldValue.TheVariants.{Number}
use Rattle.tb_reading.specs.Kinds.{declares}
use Rattle.tb_detail.specs.Names.{Text}
use Rattle.tb_reading.specs.Names.{NamesByKind, is_of_kind}
use Rattle.tb_reading.specs.Records.{Row, head_dimension, is_place, kind_of, number_in, place_in, signed_in, text_at, value_at, values_as}

-- ---- names

-- the kind of name that a record declares
abbrev pub declared_by : Row → Option NameKind
declared_by row = option_and_then declares (kind_of row)

-- the names that records declare, kind by kind, in order
abbrev pub names_of : List Row → NamesByKind
names_of rows k = map (λ row. text_at row 1) (filter (λ row. is_of_kind k (declared_by row)) rows)

-- ---- what records say

-- a record by its kind, the text of its second field and the values of its fields
pub record Entry : Type 0 where
  pub kind : Option RecordKind
  pub name : Text
  pub values : List FieldValue

abbrev pub entry : NamesByKind → Row → Entry
entry names row = record { kind = kind_of row; name = text_at row 1; values = values_as names (kind_of row) row }

abbrev pub same_kind : RecordKind → Option RecordKind → Bool
same_kind kind.Environment (Some kind.Environment) = true
same_kind kind.Material (Some kind.Material) = true
same_kind kind.Solid (Some kind.Solid) = true
same_kind kind.Air (Some kind.Air) = true
same_kind kind.Part (Some kind.Part) = true
same_kind kind.Layer (Some kind.Layer) = true
same_kind kind.Psi (Some kind.Psi) = true
same_kind kind.Length (Some kind.Length) = true
same_kind kind.Chi (Some kind.Chi) = true
same_kind kind.Area (Some kind.Area) = true
same_kind kind.Line (Some kind.Line) = true
same_kind _ _ = false

abbrev pub is_kind : RecordKind → Entry → Bool
is_kind k e = same_kind k e.kind

abbrev pub number_at : List FieldValue → ℕ → ℕ
number_at vs i = number_in (value_at vs i)

-- the number at a place, or this one where there is no such field
abbrev pub number_or : ℕ → List FieldValue → ℕ → ℕ
number_or n vs i = number_in (slice_index_or vs i (Number n))

abbrev pub place_at : List FieldValue → ℕ → ℕ
place_at vs i = place_in (value_at vs i)

abbrev pub environment_of : Entry → Environment
environment_of e = record { name = e.name }

abbrev pub material_of : Entry → Material
material_of e = record { name = e.name; lambda = number_at e.values 2 }

-- six coordinates from a place on. Where a record has no z coordinates, these are 0 and one metre.
abbrev pub span_at : List FieldValue → ℕ → Span
span_at vs i = record {
  x0 = number_at vs i;
  x1 = number_at vs (i + 1);
  y0 = number_at vs (i + 2);
  y1 = number_at vs (i + 3);
  z0 = number_or 0 vs (i + 4);
  z1 = number_or FLAT_HEIGHT vs (i + 5);
}

abbrev pub is_box : Entry → Bool
is_box e = is_kind kind.Solid e || is_kind kind.Air e

abbrev pub box_as : Option RecordKind → List FieldValue → SpaceBox
box_as (Some kind.Air) vs = record { content = Air (place_at vs 1) (number_at vs 2); span = span_at vs 3 }
box_as _ vs = record { content = Solid (place_at vs 1); span = span_at vs 2 }

abbrev pub box_of : Entry → SpaceBox
box_of e = box_as e.kind e.values

-- the areas of a part's sections: one of area 1 where none is given
abbrev pub areas_from : List FieldValue → List ℕ
areas_from [] = 1 ∷ []
areas_from (v ∷ vs) = map number_in (v ∷ vs)

-- a part before its layers
abbrev pub part_of : Entry → Part
part_of e = record { name = e.name; rsi = number_at e.values 2; rse = number_at e.values 3; areas = areas_from (drop 4 e.values); layers = [] }

abbrev pub layer_of : Entry → Layer
layer_of e = record { thickness = number_at e.values 2; materials = map place_in (drop 3 e.values) }

-- a Ψ before its lengths
abbrev pub psi_of : Entry → PsiItem
psi_of e = record { name = e.name; first = place_at e.values 2; second = place_at e.values 3; lengths = [] }

-- a χ before its areas and lines
abbrev pub chi_of : Entry → ChiItem
chi_of e = record { name = e.name; first = place_at e.values 2; second = place_at e.values 3; areas = []; lines = [] }

abbrev pub planar_term_of : Entry → PlanarTerm
planar_term_of e = record { part = place_at e.values 2; amount = number_at e.values 3 }

abbrev pub line_term_of : Entry → LineTerm
line_term_of e = record { psi_lo = signed_in (value_at e.values 2); psi_hi = signed_in (value_at e.values 3); length = number_at e.values 4 }

-- ---- the lists of a detail

-- the records of a kind, in order
abbrev pub of_kind : RecordKind → List Entry → List Entry
of_kind k es = filter (is_kind k) es

-- the records of a kind that name the item at this place, in order
abbrev pub belonging : RecordKind → List Entry → ℕ → List Entry
belonging k es place = filter (λ e. is_kind k e && is_place place (value_at e.values 1)) es

-- each item with what belongs to it by its place
abbrev pub gathered : {X : Type 0} → (ℕ → X → X) → List X → List X
gathered {X} gather items = map (λ (item : ℕ × X). gather item.0 item.1) (enumerate_from 0 items)

abbrev pub with_layers : List Entry → ℕ → Part → Part
with_layers es place p = record p { layers = map layer_of (belonging kind.Layer es place) }

abbrev pub with_lengths : List Entry → ℕ → PsiItem → PsiItem
with_lengths es place p = record p { lengths = map planar_term_of (belonging kind.Length es place) }

abbrev pub with_terms : List Entry → ℕ → ChiItem → ChiItem
with_terms es place c = record c {
  areas = map planar_term_of (belonging kind.Area es place);
  lines = map line_term_of (belonging kind.Line es place);
}

abbrev pub parts_of : List Entry → List Part
parts_of es = gathered (with_layers es) (map part_of (of_kind kind.Part es))

abbrev pub psis_of : List Entry → List PsiItem
psis_of es = gathered (with_lengths es) (map psi_of (of_kind kind.Psi es))

abbrev pub chis_of : List Entry → List ChiItem
chis_of es = gathered (with_terms es) (map chi_of (of_kind kind.Chi es))

-- the detail of these records
abbrev pub detail_from : ℕ → List Entry → Detail
detail_from dimension es = record {
  dimension = dimension;
  environments = map environment_of (of_kind kind.Environment es);
  materials = map material_of (of_kind kind.Material es);
  boxes = map box_of (filter is_box es);
  parts = parts_of es;
  psis = psis_of es;
  chis = chis_of es;
}

-- ---- the detail of a list of records

-- the head: the first record that isn't a remark
abbrev pub head_of : List Row → Option Row
head_of rows = find (λ row. not (is_remark row)) rows

abbrev pub dimension_of : List Row → ℕ
dimension_of rows = option_map_or head_dimension (head_of rows) 0

-- each record, where a name stands for its place among all names of its kind
abbrev pub entries : NamesByKind → List Row → List Entry
entries names rows = map (entry names) rows

unfoldable pub detail_of : List Row → Detail
detail_of rows = detail_from (dimension_of rows) (entries (names_of rows) rows)
