-- Records that take one detail to the next, and what reading them comes to.
use Rattle.std.proofs.Common.{◌≡◌, ◌∙◌, ap, refl, sym, subst, ℕ, zero, suc, ◌+◌, ◌==◌, true, false, List, [], ◌∷◌, ◌++◌, map, position, Option, Some, None, Ok, append_assoc}
use Rattle.std.proofs.lemmas.List.{append-nil}
use Rattle.std.specs.List.{flat_map, list_all}
use Rattle.std.specs.Option.{option_map_or, option_or}
use Rattle.std.specs.Prelude.{option_map, is_none, slice_index, if◌then◌else◌}
use Rattle.tb_records.specs.Plain.{is_plain_record}
use Rattle.tb_detail.specs.declared.ChiItem.{ChiItem}
use Rattle.tb_detail.specs.declared.Detail.{Detail}
use Rattle.tb_detail.specs.declared.Environment.{Environment}
use Rattle.tb_detail.specs.declared.Material.{Material}
use Rattle.tb_detail.specs.declared.Part.{Part}
use Rattle.tb_detail.specs.declared.PsiItem.{PsiItem}
use Rattle.tb_detail.specs.Names.{Text}
use Rattle.tb_reading.specs.declared.draft.Draft.{Draft}
use Rattle.tb_reading.specs.declared.fault.DetailFault.{DetailFault}
use Rattle.tb_reading.specs.declared.fault.DetailKind.TheVariants.{EmptyPart, NotFormat}
use Rattle.tb_reading.specs.declared.kinds.NameKind.{NameKind}
use Rattle.tb_reading.specs.declared.kinds.NameKind.TheVariants as name
use Rattle.tb_reading.specs.declared.kinds.RecordKind.{RecordKind}
use Rattle.tb_reading.specs.declared.kinds.RecordKind.TheVariants as kind
use Rattle.tb_reading.specs.declared.names.Names.{Names}
use Rattle.tb_reading.specs.declared.records.Said.{Said}
use Rattle.tb_reading.specs.declared.records.Said.TheVariants as said
use Rattle.tb_reading.specs.declared.values.FieldValue.{FieldValue}
use Rattle.tb_reading.specs.Details.{detail_of, dimension_of, head_of, names_of, same_kind}
use Rattle.tb_reading.specs.Drafts.{Holds, changed_at, entry_of, reading_behind, with_declared, with_entry, with_if, with_said}
use Rattle.tb_reading.specs.Kinds.{declares}
use Rattle.tb_reading.specs.NameLists as kept
use Rattle.tb_reading.specs.Names.{NamesByKind}
use Rattle.tb_reading.specs.Reading.{Numbered, at_number, bare_fault, detail_reading, first_record_fault, format_fault, is_bare, numbered, part_numbers, rows_of, whole_fault}
use Rattle.tb_reading.specs.Records.{Row, head_dimension, reading, text_at, unless}
use Rattle.tb_reading.proofs.First.{fault_next}
use Rattle.tb_reading.proofs.Holding.{dimension_is, holds_none, taken}
use Rattle.tb_reading.proofs.Selected.{map_push}
use Rattle.tb_canonical.specs.Canonical.{names_in}

-- ---- a draft that holds a detail

abbrev names_kept : Detail → Names
names_kept d = record {
  environments = names_in d name.Environment;
  materials = names_in d name.Material;
  parts = names_in d name.Part;
  psis = names_in d name.Psi;
  chis = names_in d name.Chi;
}

abbrev draft_at : Detail → List ℕ → Draft
draft_at d numbers = record { names = names_kept d; detail = d; part_numbers = numbers }

kept_by : (d : Detail) (k : NameKind) → kept.names_in (names_kept d) k ≡ names_in d k
kept_by d name.Environment = refl
kept_by d name.Material = refl
kept_by d name.Part = refl
kept_by d name.Psi = refl
kept_by d name.Chi = refl

kept_names : (d : Detail) → kept.names_in (names_kept d) ≡ names_in d
kept_names d = λ i k. kept_by d k i

-- what belongs to an item leaves the names
changed_names : {X : Type 0} (name : X → Text) (change : X → X) → ((x : X) → name (change x) ≡ name x) → (place : ℕ) (xs : List X) → map name (changed_at place change xs) ≡ map name xs
changed_names name change h place [] = refl
changed_names name change h zero (x ∷ xs) = ap (λ (t : Text). t ∷ map name xs) (h x)
changed_names name change h (suc place) (x ∷ xs) = ap (λ (ts : List Text). name x ∷ ts) (changed_names name change h place xs)

-- ---- one record

-- a detail after what a record says
abbrev pub detail_after : Said → Row → Detail → Detail
detail_after said.Remark row d = d
detail_after (said.Head dimension) row d = record d { dimension = dimension }
detail_after (said.Record k vs) row d = with_entry (entry_of k vs row) d

names_after : (k : RecordKind) (vs : List FieldValue) (row : Row) (d : Detail)
    → with_declared (declares k) (text_at row 1) (names_kept d) ≡ names_kept (with_entry (entry_of k vs row) d)
names_after kind.Environment vs row d = ap (λ (l : List Text). let n : Names = record (names_kept d) { environments = l } in n) (sym (map_push (λ (e : Environment). e.name) d.environments _))
names_after kind.Material vs row d = ap (λ (l : List Text). let n : Names = record (names_kept d) { materials = l } in n) (sym (map_push (λ (m : Material). m.name) d.materials _))
names_after kind.Solid vs row d = refl
names_after kind.Air vs row d = refl
names_after kind.Part vs row d = ap (λ (l : List Text). let n : Names = record (names_kept d) { parts = l } in n) (sym (map_push (λ (p : Part). p.name) d.parts _))
names_after kind.Layer vs row d = ap (λ (l : List Text). let n : Names = record (names_kept d) { parts = l } in n) (sym (changed_names (λ (p : Part). p.name) _ (λ p. refl) _ d.parts))
names_after kind.Psi vs row d = ap (λ (l : List Text). let n : Names = record (names_kept d) { psis = l } in n) (sym (map_push (λ (p : PsiItem). p.name) d.psis _))
names_after kind.Length vs row d = ap (λ (l : List Text). let n : Names = record (names_kept d) { psis = l } in n) (sym (changed_names (λ (p : PsiItem). p.name) _ (λ p. refl) _ d.psis))
names_after kind.Chi vs row d = ap (λ (l : List Text). let n : Names = record (names_kept d) { chis = l } in n) (sym (map_push (λ (c : ChiItem). c.name) d.chis _))
names_after kind.Area vs row d = ap (λ (l : List Text). let n : Names = record (names_kept d) { chis = l } in n) (sym (changed_names (λ (c : ChiItem). c.name) _ (λ c. refl) _ d.chis))
names_after kind.Line vs row d = ap (λ (l : List Text). let n : Names = record (names_kept d) { chis = l } in n) (sym (changed_names (λ (c : ChiItem). c.name) _ (λ c. refl) _ d.chis))

abbrev numbers_after : Said → ℕ → List ℕ → List ℕ
numbers_after said.Remark number numbers = numbers
numbers_after (said.Head dimension) number numbers = numbers
numbers_after (said.Record k vs) number numbers = with_if (same_kind kind.Part (Some k)) number numbers

draft_after : (s : Said) (number : ℕ) (row : Row) (d : Detail) (numbers : List ℕ)
    → with_said s number row (draft_at d numbers) ≡ draft_at (detail_after s row d) (numbers_after s number numbers)
draft_after said.Remark number row d numbers = refl
draft_after (said.Head dimension) number row d numbers = refl
draft_after (said.Record k vs) number row d numbers =
    ap (λ (n : Names). let draft : Draft = record { names = n; detail = detail_after (said.Record k vs) row d; part_numbers = numbers_after (said.Record k vs) number numbers } in draft)
    (names_after k vs row d)

-- a plain record without a fault takes one detail to another
pub record Goes (a : Detail) (row : Row) (b : Detail) : Type 0 where
  pub said : Said
  pub reads : reading (names_in a) a row ≡ Ok said
  pub leads : detail_after said row a ≡ b
  pub plain : is_plain_record row ≡ true

-- ---- records, one behind the other

abbrev pub Runs : Detail → List Row → Detail → Type 0
Runs a [] b = a ≡ b
Runs a (row ∷ rows) b = (m : Detail) × Goes a row m × Runs m rows b

pub runs_append : (a b c : Detail) (rows more : List Row) → Runs a rows b → Runs b more c → Runs a (rows ++ more) c
runs_append a b c [] more h k = subst (λ (d : Detail). Runs d more c) (sym h) k
runs_append a b c (row ∷ rows) more h k = (h.0, h.1, runs_append h.0 b c rows more h.2 k)

pub runs_one : (a b : Detail) (row : Row) → Goes a row b → Runs a (row ∷ []) b
runs_one a b row h = (b, h, refl)

-- the records are plain
pub runs_plain : (a b : Detail) (rows : List Row) → Runs a rows b → list_all is_plain_record rows ≡ true
runs_plain a b [] h = refl
runs_plain a b (row ∷ rows) h = rw (h.1.plain, runs_plain h.0 b rows h.2) refl

-- the records of a list of things, each of which takes a state with the things before it to one with it
pub runs_each : {X : Type 0} (rows : X → List Row) (at : List X → Detail) (all : List X)
    → ((before : List X) (x : X) (after : List X) → before ++ (x ∷ after) ≡ all → Runs (at before) (rows x) (at (before ++ (x ∷ []))))
    → (before rest : List X) → before ++ rest ≡ all → Runs (at before) (flat_map rows rest) (at all)
runs_each rows at all step before [] e = ap at (sym (append-nil before) ∙ e)
runs_each rows at all step before (x ∷ rest) e =
    runs_append (at before) (at (before ++ (x ∷ []))) (at all) (rows x) (flat_map rows rest) (step before x rest e)
    (runs_each rows at all step (before ++ (x ∷ [])) rest (append_assoc before (x ∷ []) rest ∙ e))

-- the same with one record for each
pub runs_map : {X : Type 0} (row : X → Row) (at : List X → Detail) (all : List X)
    → ((before : List X) (x : X) (after : List X) → before ++ (x ∷ after) ≡ all → Goes (at before) (row x) (at (before ++ (x ∷ []))))
    → (before rest : List X) → before ++ rest ≡ all → Runs (at before) (map row rest) (at all)
runs_map row at all step before [] e = ap at (sym (append-nil before) ∙ e)
runs_map row at all step before (x ∷ rest) e =
    (at (before ++ (x ∷ [])), step before x rest e, runs_map row at all step (before ++ (x ∷ [])) rest (append_assoc before (x ∷ []) rest ∙ e))

-- ---- reading them

-- a draft stands for these records, which have no fault
record Stands (d : Detail) (given : List Numbered) : Type 0 where
  pub numbers : List ℕ
  pub holds : Holds (draft_at d numbers) given
  pub faultless : first_record_fault given ≡ None

read_on : (a b : Detail) (row : Row) (number : ℕ) (given : List Numbered) → Stands a given → Goes a row b → Stands b (given ++ (number, row) ∷ [])
read_on a b row number given h g =
    let r : reading_behind (draft_at a h.numbers) row ≡ Ok g.said = ap (λ (names : NamesByKind). reading names a row) (kept_names a) ∙ g.reads in
    let t = taken (draft_at a h.numbers) (draft_at (detail_after g.said row a) (numbers_after g.said number h.numbers)) given g.said number row h.holds r (sym (draft_after g.said number row a h.numbers)) in
    record {
      numbers = numbers_after g.said number h.numbers;
      holds = subst (λ (d : Detail). Holds (draft_at d (numbers_after g.said number h.numbers)) (given ++ (number, row) ∷ [])) g.leads t.1;
      faultless = fault_next given number row h.faultless ∙ ap (option_map (at_number number)) t.0;
    }

read_all : (a b : Detail) (rows : List Row) (first : ℕ) (given : List Numbered) → Stands a given → Runs a rows b → Stands b (given ++ numbered first rows)
read_all a b [] first given h r = subst (λ (l : List Numbered). Stands b l) (sym (append-nil given)) (subst (λ (d : Detail). Stands d given) r h)
read_all a b (row ∷ rows) first given h r =
    subst (λ (l : List Numbered). Stands b l) (append_assoc given ((first, row) ∷ []) (numbered (first + 1) rows))
    (read_all r.0 b rows (first + 1) (given ++ (first, row) ∷ []) (read_on a r.0 row first given h r.1) r.2)

abbrev pub nothing : Detail
nothing = record { dimension = 0; environments = []; materials = []; boxes = []; parts = []; psis = []; chis = [] }

none_read : Stands nothing []
none_read = record {
  numbers = [];
  holds = holds_none (draft_at nothing []) (λ i k. by k i) refl refl;
  faultless = refl;
}
  where
    by : (k : NameKind) → kept.names_in (names_kept nothing) k ≡ names_of [] k
    by name.Environment = refl
    by name.Material = refl
    by name.Part = refl
    by name.Psi = refl
    by name.Chi = refl

headed : (o : Option Row) (f : DetailFault) → (option_map_or head_dimension o 0 == 0) ≡ false → (if is_none o then Some f else None) ≡ None
headed None f h = cc h
headed (Some row) f h = refl

faultless_reading : (a b c : Option DetailFault) (x d : Detail) → a ≡ None → b ≡ None → c ≡ None → x ≡ d → unless (option_or a (option_or b c)) x ≡ Ok d
faultless_reading a b c x d h k l e = rw (h, k, l, e) refl

-- records that lead to a whole detail read as it
pub whole_reading : (d : Detail) (rows : List Row) → Runs nothing rows d → (d.dimension == 0) ≡ false → position is_bare d.parts ≡ None
    → (number first : ℕ) → detail_reading number (numbered first rows) ≡ Ok d
whole_reading d rows r dimension layered number first =
    let given = numbered first rows in
    let s = read_all nothing d rows first [] none_read r in
    let same : d ≡ detail_of (rows_of given) = s.holds.detail in
    let n : (dimension_of (rows_of given) == 0) ≡ false = ap (λ (n : ℕ). n == 0) (sym (dimension_is (draft_at d s.numbers) (rows_of given) (part_numbers given) s.holds)) ∙ dimension in
    faultless_reading (first_record_fault given) (format_fault number given) (bare_fault (part_numbers given) (detail_of (rows_of given))) (detail_of (rows_of given)) d
    s.faultless (headed (head_of (rows_of given)) (whole_fault NotFormat number) n)
    (ap (bare_fault (part_numbers given)) (sym same) ∙ ap (option_map (λ place. whole_fault EmptyPart (slice_index (part_numbers given) place))) layered)
    (sym same)
