-- What one more record adds to the names and to the detail of a list of records.
use Rattle.std.proofs.Common.{◌≡◌, ℕ, suc, ◌+◌, ◌≤◌, ◌&&◌, Bool, true, false, cond, List, [], ◌∷◌, ◌++◌, length, map, filter, Option, Some, refl, sym, ap, ◌∙◌, subst, arith, if◌then◌else◌}
use Rattle.std.proofs.lemmas.Bool.{eq-eqb, ne_eqb}
use Rattle.std.proofs.lemmas.List.{append-nil, length-map}
use Rattle.std.specs.Option.{option_and_then}
use Rattle.tb_detail.specs.declared.ChiItem.{ChiItem}
use Rattle.tb_detail.specs.declared.Layer.{Layer}
use Rattle.tb_detail.specs.declared.LineTerm.{LineTerm}
use Rattle.tb_detail.specs.declared.Part.{Part}
use Rattle.tb_detail.specs.declared.PlanarTerm.{PlanarTerm}
use Rattle.tb_detail.specs.declared.PsiItem.{PsiItem}
use Rattle.tb_reading.specs.declared.kinds.NameKind.{NameKind}
use Rattle.tb_reading.specs.declared.kinds.NameKind.TheVariants as name
use Rattle.tb_reading.specs.declared.kinds.RecordKind.{RecordKind}
use Rattle.tb_reading.specs.declared.kinds.RecordKind.TheVariants as kind
use Rattle.tb_reading.specs.declared.values.FieldValue.{FieldValue}
use Rattle.tb_reading.specs.declared.values.FieldValue.TheVariants.{Place}
use Rattle.tb_reading.specs.Details.{Entry, belonging, box_of, chi_of, chis_of, declared_by, detail_from, detail_of, dimension_of, entries, entry, environment_of, gathered, is_box, is_kind, layer_of, line_term_of, material_of, names_of, of_kind, part_of, parts_of, planar_term_of, psi_of, psis_of, same_kind, with_layers, with_lengths, with_terms}
use Rattle.tb_reading.specs.Drafts.{AreSettled, IsSettled, IsStrange, changed_at, longer, more_area, more_chis, more_layer, more_length, more_line, more_parts, more_psis, with_entry, with_if}
use Rattle.tb_reading.specs.Kinds.{declares}
use Rattle.tb_detail.specs.Names.{Text}
use Rattle.tb_reading.specs.Names.{NamesByKind, is_of_kind}
use Rattle.tb_reading.specs.Records.{Row, is_place, kind_of, place_in, text_at, value_at, values_as}
use Rattle.tb_reading.proofs.Selected.{gathered_changed, gathered_push, gathered_same, map_push, select_push}
use Rattle.tb_reading.proofs.Settled.{are_settled_push}

-- ---- names

-- the names that a record adds
abbrev pub more_of : Row → NamesByKind
more_of row k = if is_of_kind k (declared_by row) then text_at row 1 ∷ [] else []

with_append : {X : Type 0} (b : Bool) (x : X) (xs : List X) → with_if b x xs ≡ xs ++ (if b then x ∷ [] else [])
with_append true x xs = refl
with_append false x xs = sym (append-nil xs)

pub names_more : (rows : List Row) (row : Row) → names_of (rows ++ row ∷ []) ≡ longer (names_of rows) (more_of row)
names_more rows row = λ i k. (select_push (λ (r : Row). text_at r 1) (λ (r : Row). is_of_kind k (declared_by r)) rows row ∙ with_append (is_of_kind k (declared_by row)) (text_at row 1) (names_of rows k)) i

-- ---- entries

entry_longer : (names more : NamesByKind) (row : Row) → IsSettled names row → entry (longer names more) row ≡ entry names row
entry_longer names more row s = ap (λ (vs : List FieldValue). let e : Entry = record { kind = kind_of row; name = text_at row 1; values = vs } in e) (s.steady more)

entries_longer : (names more : NamesByKind) (rows : List Row) → AreSettled names rows → entries (longer names more) rows ≡ entries names rows
entries_longer names more [] s = refl
entries_longer names more (row ∷ rows) s =
    ap (λ (e : Entry). e ∷ entries (longer names more) rows) (entry_longer names more row s.0)
    ∙ ap (λ (es : List Entry). entry names row ∷ es) (entries_longer names more rows s.1)

pub entries_more : (rows : List Row) (row : Row) → AreSettled (names_of rows) rows → IsSettled (names_of rows) row
    → entries (names_of (rows ++ row ∷ [])) (rows ++ row ∷ []) ≡ entries (names_of rows) rows ++ entry (names_of rows) row ∷ []
entries_more rows row s h =
    ap (λ (names : NamesByKind). entries names (rows ++ row ∷ [])) (names_more rows row)
    ∙ entries_longer (names_of rows) (more_of row) (rows ++ row ∷ []) (are_settled_push (names_of rows) rows row s h)
    ∙ map_push (entry (names_of rows)) rows row

-- ---- items with what belongs to them

-- no record belongs to an item past those that there are
pub record HasNoStrangers (es : List Entry) : Type 0 where
  pub layers : (place : ℕ) → length (of_kind kind.Part es) ≤ place → belonging kind.Layer es place ≡ []
  pub lengths : (place : ℕ) → length (of_kind kind.Psi es) ≤ place → belonging kind.Length es place ≡ []
  pub areas : (place : ℕ) → length (of_kind kind.Chi es) ≤ place → belonging kind.Area es place ≡ []
  pub lines : (place : ℕ) → length (of_kind kind.Chi es) ≤ place → belonging kind.Line es place ≡ []

-- a record that belongs to an item names its place
abbrev pub IsPlaced : Option RecordKind → List FieldValue → Type 0
IsPlaced (Some kind.Layer) vs = (place : ℕ) × (value_at vs 1 ≡ Place place)
IsPlaced (Some kind.Length) vs = (place : ℕ) × (value_at vs 1 ≡ Place place)
IsPlaced (Some kind.Area) vs = (place : ℕ) × (value_at vs 1 ≡ Place place)
IsPlaced (Some kind.Line) vs = (place : ℕ) × (value_at vs 1 ≡ Place place)
IsPlaced _ vs = Unit {0}

at_zero : (n : ℕ) → 0 + n ≡ n
at_zero n = omega arith

module _ {X : Type 0} (gather : List Entry → ℕ → X → X) (head : Entry → X) (t : RecordKind) (es : List Entry) (e : Entry) where
  abbrev items : List Entry → List X
  items es = gathered (gather es) (map head (of_kind t es))

  heads_same : is_kind t e ≡ false → map head (of_kind t (es ++ e ∷ [])) ≡ map head (of_kind t es)
  heads_same f = select_push head (is_kind t) es e ∙ ap (λ (b : Bool). with_if b (head e) (map head (of_kind t es))) f

  items_same : is_kind t e ≡ false → ((i : ℕ) (x : X) → gather (es ++ e ∷ []) i x ≡ gather es i x) → items (es ++ e ∷ []) ≡ items es
  items_same f h =
      ap (gathered (gather (es ++ e ∷ []))) (heads_same f)
      ∙ gathered_same (gather es) (gather (es ++ e ∷ [])) 0 (map head (of_kind t es)) h

  items_new : is_kind t e ≡ true → ((i : ℕ) (x : X) → gather (es ++ e ∷ []) i x ≡ gather es i x) → gather es (length (of_kind t es)) (head e) ≡ head e → items (es ++ e ∷ []) ≡ items es ++ head e ∷ []
  items_new f h g =
      ap (gathered (gather (es ++ e ∷ []))) (select_push head (is_kind t) es e ∙ ap (λ (b : Bool). with_if b (head e) (map head (of_kind t es))) f)
      ∙ gathered_same (gather es) (gather (es ++ e ∷ [])) 0 (map head (of_kind t es) ++ head e ∷ []) h
      ∙ gathered_push (gather es) 0 (map head (of_kind t es)) (head e)
      ∙ ap (λ (x : X). items es ++ x ∷ []) (ap (λ (n : ℕ). gather es n (head e)) (at_zero (length (map head (of_kind t es))) ∙ length-map (of_kind t es) head) ∙ g)

  items_changed : (place : ℕ) (change : X → X) → is_kind t e ≡ false
      → ((i : ℕ) (x : X) → (i ≡ place → ⊥) → gather (es ++ e ∷ []) i x ≡ gather es i x)
      → ((x : X) → gather (es ++ e ∷ []) place x ≡ change (gather es place x))
      → items (es ++ e ∷ []) ≡ changed_at place change (items es)
  items_changed place change f h g =
      ap (gathered (gather (es ++ e ∷ []))) (heads_same f)
      ∙ gathered_changed (gather es) (gather (es ++ e ∷ [])) change 0 place (map head (of_kind t es))
      (λ i x ne. h i x (λ k. ne (k ∙ sym (at_zero place))))
      (λ x. subst (λ (i : ℕ). gather (es ++ e ∷ []) i x ≡ change (gather es i x)) (sym (at_zero place)) (g x))

abbrev belongs : RecordKind → ℕ → Entry → Bool
belongs k place e = is_kind k e && is_place place (value_at e.values 1)

abbrev entry_as : Option RecordKind → Text → List FieldValue → Entry
entry_as k text vs = record { kind = k; name = text; values = vs }

-- whether a value is a place
elsewhere : (v : FieldValue) (place i : ℕ) → v ≡ Place place → (i ≡ place → ⊥) → is_place i v ≡ false
elsewhere v place i e ne = ap (is_place i) e ∙ ne_eqb place i (λ k. ne (sym k))

here : (v : FieldValue) (place : ℕ) → v ≡ Place place → is_place place v ≡ true
here v place e = ap (is_place place) e ∙ eq-eqb place place refl

le_self : (n : ℕ) → n ≤ n
le_self n = omega arith

-- ---- parts

layers_more : (es : List Entry) (e : Entry) (i : ℕ) (p : Part) → with_layers (es ++ e ∷ []) i p ≡ (let q : Part = record p { layers = with_if (belongs kind.Layer i e) (layer_of e) (map layer_of (belonging kind.Layer es i)) } in q)
layers_more es e i p = ap (λ (ls : List Layer). let q : Part = record p { layers = ls } in q) (select_push layer_of (belongs kind.Layer i) es e)

layers_at : (b : Bool) (es : List Entry) (e : Entry) (i : ℕ) (p : Part) → belongs kind.Layer i e ≡ b → with_layers (es ++ e ∷ []) i p ≡ (let q : Part = record p { layers = with_if b (layer_of e) (map layer_of (belonging kind.Layer es i)) } in q)
layers_at b es e i p f = layers_more es e i p ∙ ap (λ (b : Bool). let q : Part = record p { layers = with_if b (layer_of e) (map layer_of (belonging kind.Layer es i)) } in q) f

parts_more : (es : List Entry) (k : Option RecordKind) (text : Text) (vs : List FieldValue) → HasNoStrangers es → IsPlaced k vs → parts_of (es ++ entry_as k text vs ∷ []) ≡ more_parts k (entry_as k text vs) (parts_of es)
parts_more es (Some kind.Part) text vs none placed =
    let e = entry_as (Some kind.Part) text vs in
    items_new with_layers part_of kind.Part es e refl (λ i p. layers_at false es e i p refl)
    (ap (λ (l : List Entry). let q : Part = record (part_of e) { layers = map layer_of l } in q) (none.layers (length (of_kind kind.Part es)) (le_self (length (of_kind kind.Part es)))))
parts_more es (Some kind.Layer) text vs none placed =
    let e = entry_as (Some kind.Layer) text vs in
    items_changed with_layers part_of kind.Part es e placed.0 (more_layer (layer_of e)) refl
    (λ i p ne. layers_at false es e i p (elsewhere (value_at vs 1) placed.0 i placed.1 ne))
    (λ p. layers_at true es e placed.0 p (here (value_at vs 1) placed.0 placed.1))
    ∙ ap (λ (n : ℕ). changed_at n (more_layer (layer_of e)) (parts_of es)) (sym (ap place_in placed.1))
parts_more es k text vs none placed = items_same with_layers part_of kind.Part es (entry_as k text vs) refl (λ i p. layers_at false es (entry_as k text vs) i p refl)

-- ---- Ψ

lengths_at : (b : Bool) (es : List Entry) (e : Entry) (i : ℕ) (p : PsiItem) → belongs kind.Length i e ≡ b → with_lengths (es ++ e ∷ []) i p ≡ (let q : PsiItem = record p { lengths = with_if b (planar_term_of e) (map planar_term_of (belonging kind.Length es i)) } in q)
lengths_at b es e i p f =
    ap (λ (l : List PlanarTerm). let q : PsiItem = record p { lengths = l } in q) (select_push planar_term_of (belongs kind.Length i) es e)
    ∙ ap (λ (b : Bool). let q : PsiItem = record p { lengths = with_if b (planar_term_of e) (map planar_term_of (belonging kind.Length es i)) } in q) f

psis_more : (es : List Entry) (k : Option RecordKind) (text : Text) (vs : List FieldValue) → HasNoStrangers es → IsPlaced k vs → psis_of (es ++ entry_as k text vs ∷ []) ≡ more_psis k (entry_as k text vs) (psis_of es)
psis_more es (Some kind.Psi) text vs none placed =
    let e = entry_as (Some kind.Psi) text vs in
    items_new with_lengths psi_of kind.Psi es e refl (λ i p. lengths_at false es e i p refl)
    (ap (λ (l : List Entry). let q : PsiItem = record (psi_of e) { lengths = map planar_term_of l } in q) (none.lengths (length (of_kind kind.Psi es)) (le_self (length (of_kind kind.Psi es)))))
psis_more es (Some kind.Length) text vs none placed =
    let e = entry_as (Some kind.Length) text vs in
    items_changed with_lengths psi_of kind.Psi es e placed.0 (more_length (planar_term_of e)) refl
    (λ i p ne. lengths_at false es e i p (elsewhere (value_at vs 1) placed.0 i placed.1 ne))
    (λ p. lengths_at true es e placed.0 p (here (value_at vs 1) placed.0 placed.1))
    ∙ ap (λ (n : ℕ). changed_at n (more_length (planar_term_of e)) (psis_of es)) (sym (ap place_in placed.1))
psis_more es k text vs none placed = items_same with_lengths psi_of kind.Psi es (entry_as k text vs) refl (λ i p. lengths_at false es (entry_as k text vs) i p refl)

-- ---- χ

abbrev chi_with : Entry → List Entry → ℕ → ChiItem → Bool → Bool → ChiItem
chi_with e es i c is_area is_line = record c {
  areas = with_if is_area (planar_term_of e) (map planar_term_of (belonging kind.Area es i));
  lines = with_if is_line (line_term_of e) (map line_term_of (belonging kind.Line es i));
}

terms_at : (a b : Bool) (es : List Entry) (e : Entry) (i : ℕ) (c : ChiItem) → belongs kind.Area i e ≡ a → belongs kind.Line i e ≡ b → with_terms (es ++ e ∷ []) i c ≡ chi_with e es i c a b
terms_at a b es e i c f g =
    ap (λ (l : List PlanarTerm). let d : ChiItem = record c { areas = l; lines = map line_term_of (belonging kind.Line (es ++ e ∷ []) i) } in d) (select_push planar_term_of (belongs kind.Area i) es e)
    ∙ ap (λ (l : List LineTerm). let d : ChiItem = record c { areas = with_if (belongs kind.Area i e) (planar_term_of e) (map planar_term_of (belonging kind.Area es i)); lines = l } in d) (select_push line_term_of (belongs kind.Line i) es e)
    ∙ ap (λ (a : Bool). chi_with e es i c a (belongs kind.Line i e)) f
    ∙ ap (λ (b : Bool). chi_with e es i c a b) g

chis_more : (es : List Entry) (k : Option RecordKind) (text : Text) (vs : List FieldValue) → HasNoStrangers es → IsPlaced k vs → chis_of (es ++ entry_as k text vs ∷ []) ≡ more_chis k (entry_as k text vs) (chis_of es)
chis_more es (Some kind.Chi) text vs none placed =
    let e = entry_as (Some kind.Chi) text vs in
    let count = length (of_kind kind.Chi es) in
    items_new with_terms chi_of kind.Chi es e refl (λ i c. terms_at false false es e i c refl refl)
    (ap (λ (l : List Entry). let d : ChiItem = record (chi_of e) { areas = map planar_term_of l; lines = map line_term_of (belonging kind.Line es count) } in d) (none.areas count (le_self count))
    ∙ ap (λ (l : List Entry). let d : ChiItem = record (chi_of e) { areas = []; lines = map line_term_of l } in d) (none.lines count (le_self count)))
chis_more es (Some kind.Area) text vs none placed =
    let e = entry_as (Some kind.Area) text vs in
    items_changed with_terms chi_of kind.Chi es e placed.0 (more_area (planar_term_of e)) refl
    (λ i c ne. terms_at false false es e i c (elsewhere (value_at vs 1) placed.0 i placed.1 ne) refl)
    (λ c. terms_at true false es e placed.0 c (here (value_at vs 1) placed.0 placed.1) refl)
    ∙ ap (λ (n : ℕ). changed_at n (more_area (planar_term_of e)) (chis_of es)) (sym (ap place_in placed.1))
chis_more es (Some kind.Line) text vs none placed =
    let e = entry_as (Some kind.Line) text vs in
    items_changed with_terms chi_of kind.Chi es e placed.0 (more_line (line_term_of e)) refl
    (λ i c ne. terms_at false false es e i c refl (elsewhere (value_at vs 1) placed.0 i placed.1 ne))
    (λ c. terms_at false true es e placed.0 c refl (here (value_at vs 1) placed.0 placed.1))
    ∙ ap (λ (n : ℕ). changed_at n (more_line (line_term_of e)) (chis_of es)) (sym (ap place_in placed.1))
chis_more es k text vs none placed = items_same with_terms chi_of kind.Chi es (entry_as k text vs) refl (λ i c. terms_at false false es (entry_as k text vs) i c refl refl)

-- ---- the detail

pub detail_more : (dimension : ℕ) (es : List Entry) (e : Entry) → HasNoStrangers es → IsPlaced e.kind e.values → detail_from dimension (es ++ e ∷ []) ≡ with_entry e (detail_from dimension es)
detail_more dimension es e none placed = λ i. record {
  dimension = dimension;
  environments = select_push environment_of (is_kind kind.Environment) es e i;
  materials = select_push material_of (is_kind kind.Material) es e i;
  boxes = select_push box_of is_box es e i;
  parts = parts_more es e.kind e.name e.values none placed i;
  psis = psis_more es e.kind e.name e.values none placed i;
  chis = chis_more es e.kind e.name e.values none placed i;
}

-- ---- no strangers

abbrev AllStrange : RecordKind → ℕ → NamesByKind → List Row → Type 0
AllStrange t count names [] = Unit {0}
AllStrange t count names (row ∷ rows) = IsStrange t count (entry names row) × AllStrange t count names rows

none_belongs : (t : RecordKind) (count : ℕ) (names : NamesByKind) (rows : List Row) → AllStrange t count names rows → (place : ℕ) → count ≤ place → belonging t (entries names rows) place ≡ []
none_belongs t count names [] s place l = refl
none_belongs t count names (row ∷ rows) s place l =
    ap (λ (b : Bool). cond b (entry names row ∷ belonging t (entries names rows) place) (belonging t (entries names rows) place)) (s.0 place l)
    ∙ none_belongs t count names rows s.1 place l

strange_layers : (names : NamesByKind) (rows : List Row) → AreSettled names rows → AllStrange kind.Layer (length (names name.Part)) names rows
strange_layers names [] s = tt
strange_layers names (row ∷ rows) s = (s.0.layer, strange_layers names rows s.1)

strange_lengths : (names : NamesByKind) (rows : List Row) → AreSettled names rows → AllStrange kind.Length (length (names name.Psi)) names rows
strange_lengths names [] s = tt
strange_lengths names (row ∷ rows) s = (s.0.length_term, strange_lengths names rows s.1)

strange_areas : (names : NamesByKind) (rows : List Row) → AreSettled names rows → AllStrange kind.Area (length (names name.Chi)) names rows
strange_areas names [] s = tt
strange_areas names (row ∷ rows) s = (s.0.area, strange_areas names rows s.1)

strange_lines : (names : NamesByKind) (rows : List Row) → AreSettled names rows → AllStrange kind.Line (length (names name.Chi)) names rows
strange_lines names [] s = tt
strange_lines names (row ∷ rows) s = (s.0.line, strange_lines names rows s.1)

-- as many records of a kind as names that they declare
as_many : (t : RecordKind) (k : NameKind) → ((o : Option RecordKind) → is_of_kind k (option_and_then declares o) ≡ same_kind t o) → (names : NamesByKind) (rows : List Row) → length (names_of rows k) ≡ length (of_kind t (entries names rows))
as_many t k h names [] = refl
as_many t k h names (row ∷ rows) = by (is_of_kind k (declared_by row)) (same_kind t (kind_of row)) (h (kind_of row)) (as_many t k h names rows)
  where
    by : (b c : Bool) → b ≡ c → length (names_of rows k) ≡ length (of_kind t (entries names rows))
        → length (map (λ (r : Row). text_at r 1) (cond b (row ∷ filter (λ (r : Row). is_of_kind k (declared_by r)) rows) (filter (λ (r : Row). is_of_kind k (declared_by r)) rows))) ≡ length (cond c (entry names row ∷ of_kind t (entries names rows)) (of_kind t (entries names rows)))
    by true true e ih = ap suc ih
    by true false e ih = cc
    by false true e ih = cc
    by false false e ih = ih

declares_part : (o : Option RecordKind) → is_of_kind name.Part (option_and_then declares o) ≡ same_kind kind.Part o
declares_part (Some kind.Part) = refl
declares_part _ = refl

declares_psi : (o : Option RecordKind) → is_of_kind name.Psi (option_and_then declares o) ≡ same_kind kind.Psi o
declares_psi (Some kind.Psi) = refl
declares_psi _ = refl

declares_chi : (o : Option RecordKind) → is_of_kind name.Chi (option_and_then declares o) ≡ same_kind kind.Chi o
declares_chi (Some kind.Chi) = refl
declares_chi _ = refl

pub no_strangers : (rows : List Row) → AreSettled (names_of rows) rows → HasNoStrangers (entries (names_of rows) rows)
no_strangers rows s = record {
  layers = λ place l. none_belongs kind.Layer _ (names_of rows) rows (strange_layers (names_of rows) rows s) place (subst (λ (n : ℕ). n ≤ place) (sym (as_many kind.Part name.Part declares_part (names_of rows) rows)) l);
  lengths = λ place l. none_belongs kind.Length _ (names_of rows) rows (strange_lengths (names_of rows) rows s) place (subst (λ (n : ℕ). n ≤ place) (sym (as_many kind.Psi name.Psi declares_psi (names_of rows) rows)) l);
  areas = λ place l. none_belongs kind.Area _ (names_of rows) rows (strange_areas (names_of rows) rows s) place (subst (λ (n : ℕ). n ≤ place) (sym (as_many kind.Chi name.Chi declares_chi (names_of rows) rows)) l);
  lines = λ place l. none_belongs kind.Line _ (names_of rows) rows (strange_lines (names_of rows) rows s) place (subst (λ (n : ℕ). n ≤ place) (sym (as_many kind.Chi name.Chi declares_chi (names_of rows) rows)) l);
}

-- ---- one more record

pub detail_of_more : (rows : List Row) (row : Row) → AreSettled (names_of rows) rows → IsSettled (names_of rows) row → IsPlaced (kind_of row) (values_as (names_of rows) (kind_of row) row)
    → detail_of (rows ++ row ∷ []) ≡ with_entry (entry (names_of rows) row) (detail_from (dimension_of (rows ++ row ∷ [])) (entries (names_of rows) rows))
unfolding detail_of
detail_of_more rows row s h placed =
    ap (detail_from (dimension_of (rows ++ row ∷ []))) (entries_more rows row s h)
    ∙ detail_more (dimension_of (rows ++ row ∷ [])) (entries (names_of rows) rows) (entry (names_of rows) row) (no_strangers rows s) placed
