-- What a builder keeps, and the lists of records that it stands for.
use Rattle.std.specs.Prelude.{◌≡◌, ℕ, zero, suc, ◌<◌, ◌≤◌, ◌++◌, ◌&&◌, Bool, false, List, [], ◌∷◌, length, Option, Some, None, Result, Ok, Err, if◌then◌else◌}
use Rattle.tb_detail.specs.declared.ChiItem.{ChiItem}
use Rattle.tb_detail.specs.declared.Detail.{Detail}
use Rattle.tb_detail.specs.declared.Layer.{Layer}
use Rattle.tb_detail.specs.declared.limits.TheConstants.{MOST_NAMES}
use Rattle.tb_detail.specs.declared.LineTerm.{LineTerm}
use Rattle.tb_detail.specs.declared.Part.{Part}
use Rattle.tb_detail.specs.declared.PlanarTerm.{PlanarTerm}
use Rattle.tb_detail.specs.declared.PsiItem.{PsiItem}
use Rattle.tb_reading.specs.declared.draft.Draft.{Draft}
use Rattle.tb_reading.specs.declared.draft.Stop.{Stop}
use Rattle.tb_reading.specs.declared.draft.Stop.TheVariants as stop
use Rattle.tb_reading.specs.declared.fault.FieldFault.{FieldFault}
use Rattle.tb_reading.specs.declared.kinds.NameKind.{NameKind}
use Rattle.tb_reading.specs.declared.kinds.NameKind.TheVariants as name
use Rattle.tb_reading.specs.declared.kinds.RecordKind.{RecordKind}
use Rattle.tb_reading.specs.declared.kinds.RecordKind.TheVariants as kind
use Rattle.tb_reading.specs.declared.names.Names.{Names}
use Rattle.tb_reading.specs.declared.records.Said.{Said}
use Rattle.tb_reading.specs.declared.records.Said.TheVariants as said
use Rattle.tb_reading.specs.declared.values.FieldValue.{FieldValue}
use Rattle.tb_reading.specs.Details.{Entry, box_of, chi_of, detail_of, dimension_of, entry, environment_of, head_of, is_box, is_kind, layer_of, line_term_of, material_of, names_of, part_of, place_at, planar_term_of, psi_of, same_kind}
use Rattle.tb_reading.specs.Kinds.{declares}
use Rattle.tb_reading.specs.NameLists.{names_in, with_name}
use Rattle.tb_detail.specs.Names.{Text}
use Rattle.tb_reading.specs.Names.{NamesByKind, place_of}
use Rattle.tb_reading.specs.Reading.{Numbered, fault_of, part_numbers, rows_of}
use Rattle.tb_reading.specs.Records.{Row, is_place, kind_of, reading, text_at, value_at, values_as}

-- ---- one more record

-- the list with one more at its end, where there is one more
abbrev pub with_if : {X : Type 0} → Bool → X → List X → List X
with_if more x xs = if more then xs ++ x ∷ [] else xs

-- the list with the item at this place changed
abbrev pub changed_at : {X : Type 0} → ℕ → (X → X) → List X → List X
changed_at place change [] = []
changed_at zero change (x ∷ xs) = change x ∷ xs
changed_at (suc place) change (x ∷ xs) = x ∷ changed_at place change xs

abbrev pub more_layer : Layer → Part → Part
more_layer l p = record p { layers = p.layers ++ l ∷ [] }

abbrev pub more_length : PlanarTerm → PsiItem → PsiItem
more_length t p = record p { lengths = p.lengths ++ t ∷ [] }

abbrev pub more_area : PlanarTerm → ChiItem → ChiItem
more_area t c = record c { areas = c.areas ++ t ∷ [] }

abbrev pub more_line : LineTerm → ChiItem → ChiItem
more_line t c = record c { lines = c.lines ++ t ∷ [] }

abbrev pub more_parts : Option RecordKind → Entry → List Part → List Part
more_parts (Some kind.Part) e ps = ps ++ part_of e ∷ []
more_parts (Some kind.Layer) e ps = changed_at (place_at e.values 1) (more_layer (layer_of e)) ps
more_parts _ e ps = ps

abbrev pub more_psis : Option RecordKind → Entry → List PsiItem → List PsiItem
more_psis (Some kind.Psi) e ps = ps ++ psi_of e ∷ []
more_psis (Some kind.Length) e ps = changed_at (place_at e.values 1) (more_length (planar_term_of e)) ps
more_psis _ e ps = ps

abbrev pub more_chis : Option RecordKind → Entry → List ChiItem → List ChiItem
more_chis (Some kind.Chi) e cs = cs ++ chi_of e ∷ []
more_chis (Some kind.Area) e cs = changed_at (place_at e.values 1) (more_area (planar_term_of e)) cs
more_chis (Some kind.Line) e cs = changed_at (place_at e.values 1) (more_line (line_term_of e)) cs
more_chis _ e cs = cs

-- a detail with one more record
abbrev pub with_entry : Entry → Detail → Detail
with_entry e d = record {
  dimension = d.dimension;
  environments = with_if (is_kind kind.Environment e) (environment_of e) d.environments;
  materials = with_if (is_kind kind.Material e) (material_of e) d.materials;
  boxes = with_if (is_box e) (box_of e) d.boxes;
  parts = more_parts e.kind e d.parts;
  psis = more_psis e.kind e d.psis;
  chis = more_chis e.kind e d.chis;
}

-- a name that is declared is new in its kind, and there is room for it
abbrev pub IsNewName : NamesByKind → Option NameKind → Text → Type 0
IsNewName names None text = Unit {0}
IsNewName names (Some k) text = (place_of (names k) text ≡ None) × (length (names k) < MOST_NAMES)

abbrev pub with_declared : Option NameKind → Text → Names → Names
with_declared None text n = n
with_declared (Some k) text n = with_name k text n

-- a record of a kind, with its values
abbrev pub entry_of : RecordKind → List FieldValue → Row → Entry
entry_of k vs row = record { kind = Some k; name = text_at row 1; values = vs }

-- a draft with what one more record says, whose number this is
abbrev pub with_said : Said → ℕ → Row → Draft → Draft
with_said said.Remark number row d = d
with_said (said.Head dimension) number row d = record d { detail = record d.detail { dimension = dimension } }
with_said (said.Record k vs) number row d = record {
  names = with_declared (declares k) (text_at row 1) d.names;
  detail = with_entry (entry_of k vs row) d.detail;
  part_numbers = with_if (same_kind kind.Part (Some k)) number d.part_numbers;
}

abbrev pub reading_behind : Draft → Row → Result Said FieldFault
reading_behind d row = reading (names_in d.names) d.detail row

-- ---- the records that a draft stands for

-- the names with more at their ends
abbrev pub longer : NamesByKind → NamesByKind → NamesByKind
longer names more k = names k ++ more k

-- this isn't a record of the kind that belongs to an item past so many
abbrev pub IsStrange : RecordKind → ℕ → Entry → Type 0
IsStrange k count e = (place : ℕ) → count ≤ place → (is_kind k e && is_place place (value_at e.values 1)) ≡ false

-- a record says the same however many names follow, and belongs to none that follow
pub record IsSettled (names : NamesByKind) (row : Row) : Type 0 where
  pub steady : (more : NamesByKind) → values_as (longer names more) (kind_of row) row ≡ values_as names (kind_of row) row
  pub layer : IsStrange kind.Layer (length (names name.Part)) (entry names row)
  pub length_term : IsStrange kind.Length (length (names name.Psi)) (entry names row)
  pub area : IsStrange kind.Area (length (names name.Chi)) (entry names row)
  pub line : IsStrange kind.Line (length (names name.Chi)) (entry names row)

abbrev pub AreSettled : NamesByKind → List Row → Type 0
AreSettled names [] = Unit {0}
AreSettled names (row ∷ rows) = IsSettled names row × AreSettled names rows

-- a draft holds the names and the detail of these records, and these numbers of parts
pub record HoldsRows (d : Draft) (rows : List Row) (numbers : List ℕ) : Type 0 where
  pub names : names_in d.names ≡ names_of rows
  pub detail : d.detail ≡ detail_of rows
  pub part_numbers : d.part_numbers ≡ numbers
  pub settled : AreSettled (names_of rows) rows
  pub headed : dimension_of rows ≡ 0 → head_of rows ≡ None

-- a draft holds the names, the detail and the numbers of the parts of these records
abbrev pub Holds : Draft → List Numbered → Type 0
Holds d given = HoldsRows d (rows_of given) (part_numbers given)

abbrev pub Unit0 : Type 0
Unit0 = Unit {0}

-- what taking in a record answers, and what the draft holds then
abbrev pub Takes : Result Unit0 Stop → List Numbered → ℕ → Row → Draft → Type 0
Takes (Ok u) given number row new = (fault_of (rows_of given) row ≡ None) × Holds new (given ++ (number, row) ∷ [])
Takes (Err (stop.Fault f)) given number row new = fault_of (rows_of given) row ≡ Some f
Takes (Err stop.NoMemory) given number row new = Unit {0}
