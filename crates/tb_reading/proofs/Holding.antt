-- What a draft holds after one more record.
use Rattle.std.proofs.Common.{◌≡◌, ℕ, ◌==◌, ◌&&◌, Bool, true, false, not, List, [], ◌∷◌, ◌++◌, length, Option, Some, None, Ok, Err, refl, sym, ap, ◌∙◌, subst, if◌then◌else◌, codes}
use Rattle.std.proofs.lemmas.Bool.{eqb-true, eq-eqb}
use Rattle.std.proofs.lemmas.List.{append-nil}
use Rattle.std.specs.List.{find}
use Rattle.std.specs.Option.{option_and_then, option_map_or, option_or}
use Rattle.std.specs.Str.{bytes_eq}
use Rattle.tb_records.specs.Records.{is_remark}
use Rattle.tb_detail.specs.declared.Detail.{Detail}
use Rattle.tb_reading.specs.declared.draft.Draft.{Draft}
use Rattle.tb_reading.specs.declared.fault.FieldFault.{FieldFault}
use Rattle.tb_reading.specs.declared.kinds.NameKind.{NameKind}
use Rattle.tb_reading.specs.declared.kinds.NameKind.TheVariants as name
use Rattle.tb_reading.specs.declared.kinds.RecordKind.{RecordKind}
use Rattle.tb_reading.specs.declared.kinds.RecordKind.TheVariants as kind
use Rattle.tb_reading.specs.declared.names.Names.{Names}
use Rattle.tb_reading.specs.declared.records.Said.{Said}
use Rattle.tb_reading.specs.declared.records.Said.TheVariants as said
use Rattle.tb_reading.specs.declared.values.FieldValue.{FieldValue}
use Rattle.tb_reading.specs.Details.{Entry, detail_from, detail_of, dimension_of, entries, head_of, names_of, same_kind}
use Rattle.tb_reading.specs.Drafts.{AreSettled, Holds, HoldsRows, IsNewName, Takes, entry_of, longer, reading_behind, with_declared, with_entry, with_if, with_said}
use Rattle.tb_reading.specs.Kinds.{all_kinds, declares, fields, word}
use Rattle.tb_reading.specs.NameLists.{names_in, no_names}
use Rattle.tb_detail.specs.Names.{Text}
use Rattle.tb_reading.specs.Names.{NamesByKind, is_of_kind}
use Rattle.tb_reading.specs.Reading.{Numbered, fault_of, part_numbers, rows_of}
use Rattle.tb_reading.specs.Records.{Row, head_dimension, kind_fault, kind_of, record_fault, text_at, values, values_as}
use Rattle.tb_reading.proofs.Fields.{unless_err, unless_ok}
use Rattle.tb_reading.proofs.Growth.{IsPlaced, detail_of_more, more_of, names_more}
use Rattle.tb_reading.proofs.Saying.{Says, says}
use Rattle.tb_reading.proofs.Selected.{find_push, map_push, select_push}
use Rattle.tb_reading.proofs.Settled.{IsSound, Owner, are_settled_longer, are_settled_push, new_name, owner, settled_kind, settled_none, sound}

-- ---- the head

head_more : (rows : List Row) (row : Row) → head_of (rows ++ row ∷ []) ≡ option_or (head_of rows) (if not (is_remark row) then Some row else None)
head_more rows row = find_push (λ (r : Row). not (is_remark r)) rows row

or_none : {X : Type 0} (o : Option X) → option_or o None ≡ o
or_none None = refl
or_none (Some x) = refl

head_remark : (rows : List Row) (row : Row) → is_remark row ≡ true → head_of (rows ++ row ∷ []) ≡ head_of rows
head_remark rows row e = head_more rows row ∙ ap (λ (b : Bool). option_or (head_of rows) (if not b then Some row else None)) e ∙ or_none (head_of rows)

head_first : (rows : List Row) (row : Row) → is_remark row ≡ false → head_of rows ≡ None → head_of (rows ++ row ∷ []) ≡ Some row
head_first rows row e f = head_more rows row ∙ ap (λ (b : Bool). option_or (head_of rows) (if not b then Some row else None)) e ∙ ap (λ (o : Option Row). option_or o (Some row)) f

head_stays : (rows : List Row) (row : Row) → (dimension_of rows == 0) ≡ false → head_of (rows ++ row ∷ []) ≡ head_of rows
head_stays rows row h = head_more rows row ∙ by (head_of rows) h
  where
    by : (o : Option Row) → (option_map_or head_dimension o 0 == 0) ≡ false → option_or o (if not (is_remark row) then Some row else None) ≡ o
    by None e = cc
    by (Some r) e = refl

-- ---- a record of no kind

remark_kind : (row : Row) → is_remark row ≡ true → kind_of row ≡ None
unfolding kind_of
remark_kind row e = ap (λ (b : Bool). if b then None else find (λ k. bytes_eq (text_at row 0) (word k)) all_kinds) e

more_none : (rows : List Row) (row : Row) → kind_of row ≡ None → names_of (rows ++ row ∷ []) ≡ names_of rows
more_none rows row e = names_more rows row ∙ (λ i k. (ap (λ (o : Option RecordKind). names_of rows k ++ (if is_of_kind k (option_and_then declares o) then text_at row 1 ∷ [] else [])) e ∙ append-nil (names_of rows k)) i)

abbrev entry_by : NamesByKind → Option RecordKind → Row → Entry
entry_by names o row = record { kind = o; name = text_at row 1; values = values_as names o row }

none_placed : (names : NamesByKind) (row : Row) → kind_of row ≡ None → IsPlaced (kind_of row) (values_as names (kind_of row) row)
none_placed names row e = subst (λ (o : Option RecordKind). IsPlaced o (values_as names o row)) (sym e) tt

detail_none : (rows : List Row) (row : Row) → kind_of row ≡ None → AreSettled (names_of rows) rows → detail_of (rows ++ row ∷ []) ≡ detail_from (dimension_of (rows ++ row ∷ [])) (entries (names_of rows) rows)
detail_none rows row e s =
    detail_of_more rows row s (settled_none (names_of rows) row e) (none_placed (names_of rows) row e)
    ∙ ap (λ (o : Option RecordKind). with_entry (entry_by (names_of rows) o row) (detail_from (dimension_of (rows ++ row ∷ [])) (entries (names_of rows) rows))) e

settled_with_none : (rows : List Row) (row : Row) → kind_of row ≡ None → AreSettled (names_of rows) rows → AreSettled (names_of (rows ++ row ∷ [])) (rows ++ row ∷ [])
settled_with_none rows row e s = subst (λ (names : NamesByKind). AreSettled names (rows ++ row ∷ [])) (sym (more_none rows row e)) (are_settled_push (names_of rows) rows row s (settled_none (names_of rows) row e))

-- ---- a record of a kind

declared_in : (o : Option NameKind) (text : Text) (n : Names) (k : NameKind) → names_in (with_declared o text n) k ≡ names_in n k ++ (if is_of_kind k o then text ∷ [] else [])
declared_in None text n k = sym (append-nil (names_in n k))
declared_in (Some name.Environment) text n name.Environment = refl
declared_in (Some name.Environment) text n name.Material = sym (append-nil n.materials)
declared_in (Some name.Environment) text n name.Part = sym (append-nil n.parts)
declared_in (Some name.Environment) text n name.Psi = sym (append-nil n.psis)
declared_in (Some name.Environment) text n name.Chi = sym (append-nil n.chis)
declared_in (Some name.Material) text n name.Environment = sym (append-nil n.environments)
declared_in (Some name.Material) text n name.Material = refl
declared_in (Some name.Material) text n name.Part = sym (append-nil n.parts)
declared_in (Some name.Material) text n name.Psi = sym (append-nil n.psis)
declared_in (Some name.Material) text n name.Chi = sym (append-nil n.chis)
declared_in (Some name.Part) text n name.Environment = sym (append-nil n.environments)
declared_in (Some name.Part) text n name.Material = sym (append-nil n.materials)
declared_in (Some name.Part) text n name.Part = refl
declared_in (Some name.Part) text n name.Psi = sym (append-nil n.psis)
declared_in (Some name.Part) text n name.Chi = sym (append-nil n.chis)
declared_in (Some name.Psi) text n name.Environment = sym (append-nil n.environments)
declared_in (Some name.Psi) text n name.Material = sym (append-nil n.materials)
declared_in (Some name.Psi) text n name.Part = sym (append-nil n.parts)
declared_in (Some name.Psi) text n name.Psi = refl
declared_in (Some name.Psi) text n name.Chi = sym (append-nil n.chis)
declared_in (Some name.Chi) text n name.Environment = sym (append-nil n.environments)
declared_in (Some name.Chi) text n name.Material = sym (append-nil n.materials)
declared_in (Some name.Chi) text n name.Part = sym (append-nil n.parts)
declared_in (Some name.Chi) text n name.Psi = sym (append-nil n.psis)
declared_in (Some name.Chi) text n name.Chi = refl

names_kind : (n : Names) (rows : List Row) (row : Row) (k : RecordKind) → kind_of row ≡ Some k → names_in n ≡ names_of rows → names_in (with_declared (declares k) (text_at row 1) n) ≡ names_of (rows ++ row ∷ [])
names_kind n rows row k e h =
    (λ i j. declared_in (declares k) (text_at row 1) n j i)
    ∙ ap (λ (names : NamesByKind). longer names (λ j. if is_of_kind j (declares k) then text_at row 1 ∷ [] else [])) h
    ∙ ap (λ (o : Option RecordKind). longer (names_of rows) (λ j. if is_of_kind j (option_and_then declares o) then text_at row 1 ∷ [] else [])) (sym e)
    ∙ sym (names_more rows row)

placed_as : (names : NamesByKind) (k : RecordKind) (vs : List FieldValue) → Owner names k vs → IsPlaced (Some k) vs
placed_as names kind.Layer vs o = (o.0, o.1.0)
placed_as names kind.Length vs o = (o.0, o.1.0)
placed_as names kind.Area vs o = (o.0, o.1.0)
placed_as names kind.Line vs o = (o.0, o.1.0)
placed_as names _ vs o = tt

kind_placed : (names : NamesByKind) (d : Detail) (k : RecordKind) (row : Row) → kind_of row ≡ Some k → IsSound names d k row → IsPlaced (kind_of row) (values_as names (kind_of row) row)
kind_placed names d k row e s = subst (λ (o : Option RecordKind). IsPlaced o (values_as names o row)) (sym e) (placed_as names k (values names (fields k) row) (owner names d k row s))

detail_kind : (rows : List Row) (row : Row) (d : Detail) (k : RecordKind) (vs : List FieldValue) → kind_of row ≡ Some k → values (names_of rows) (fields k) row ≡ vs → IsSound (names_of rows) d k row → AreSettled (names_of rows) rows
    → detail_of (rows ++ row ∷ []) ≡ with_entry (entry_of k vs row) (detail_from (dimension_of (rows ++ row ∷ [])) (entries (names_of rows) rows))
detail_kind rows row d k vs e v s settled =
    detail_of_more rows row settled (settled_kind (names_of rows) d k row e s) (kind_placed (names_of rows) d k row e s)
    ∙ ap (λ (o : Option RecordKind). with_entry (entry_by (names_of rows) o row) (detail_from (dimension_of (rows ++ row ∷ [])) (entries (names_of rows) rows))) e
    ∙ ap (λ (vs : List FieldValue). with_entry (entry_of k vs row) (detail_from (dimension_of (rows ++ row ∷ [])) (entries (names_of rows) rows))) v

settled_with_kind : (rows : List Row) (row : Row) (d : Detail) (k : RecordKind) → kind_of row ≡ Some k → IsSound (names_of rows) d k row → AreSettled (names_of rows) rows → AreSettled (names_of (rows ++ row ∷ [])) (rows ++ row ∷ [])
settled_with_kind rows row d k e s settled =
    subst (λ (names : NamesByKind). AreSettled names (rows ++ row ∷ [])) (sym (names_more rows row))
    (are_settled_longer (names_of rows) (more_of row) (rows ++ row ∷ []) (are_settled_push (names_of rows) rows row settled (settled_kind (names_of rows) d k row e s)))

-- ---- a draft

detail_is : (rows : List Row) → detail_of rows ≡ detail_from (dimension_of rows) (entries (names_of rows) rows)
unfolding detail_of
detail_is rows = refl

pub dimension_is : (d : Draft) (rows : List Row) (numbers : List ℕ) → HoldsRows d rows numbers → d.detail.dimension ≡ dimension_of rows
dimension_is d rows numbers h = ap (λ (x : Detail). x.dimension) (h.detail ∙ detail_is rows)

bytes_are : (xs ys : List ℕ) → bytes_eq xs ys ≡ true → xs ≡ ys
bytes_are [] [] e = refl
bytes_are [] (y ∷ ys) e = cc
bytes_are (x ∷ xs) [] e = cc
bytes_are (x ∷ xs) (y ∷ ys) e = by (x == y) (bytes_eq xs ys) refl refl e (bytes_are xs ys)
  where
    by : (b c : Bool) → (x == y) ≡ b → bytes_eq xs ys ≡ c → (b && c) ≡ true → (bytes_eq xs ys ≡ true → xs ≡ ys) → x ∷ xs ≡ y ∷ ys
    by true true f g h rest = ap (λ (z : ℕ). z ∷ xs) (eqb-true x y f) ∙ ap (λ (l : List ℕ). y ∷ l) (rest g)
    by true false f g h rest = cc
    by false c f g h rest = cc

-- the word of a head is that of no kind
detail_kind_of : (row : Row) → text_at row 0 ≡ codes "detail" → kind_of row ≡ None
unfolding kind_of
detail_kind_of row e = by (is_remark row)
  where
    found : find (λ k. bytes_eq (text_at row 0) (word k)) all_kinds ≡ None
    found = ap (λ (t : Text). find (λ k. bytes_eq t (word k)) all_kinds) e

    by : (b : Bool) → (if b then None else find (λ k. bytes_eq (text_at row 0) (word k)) all_kinds) ≡ None
    by true = refl
    by false = found

head_kind : (row : Row) → (head_dimension row == 0) ≡ false → kind_of row ≡ None
unfolding head_dimension
head_kind row h = by (if bytes_eq (text_at row 2) (codes "2") then 2 else (if bytes_eq (text_at row 2) (codes "3") then 3 else 0)) (length row == 3) (bytes_eq (text_at row 0) (codes "detail")) (bytes_eq (text_at row 1) (codes "1")) refl h
  where
    by : (n : ℕ) (a b c : Bool) → bytes_eq (text_at row 0) (codes "detail") ≡ b → ((if a && (b && c) then n else 0) == 0) ≡ false → kind_of row ≡ None
    by n true true c e h = detail_kind_of row (bytes_are (text_at row 0) (codes "detail") e)
    by n true false c e h = cc
    by n false b c e h = cc

with_remark : (d : Draft) (rows : List Row) (numbers : List ℕ) (row : Row) → HoldsRows d rows numbers → is_remark row ≡ true → HoldsRows d (rows ++ row ∷ []) numbers
with_remark d rows numbers row h e = record {
  names = h.names ∙ sym (more_none rows row k);
  detail = h.detail ∙ detail_is rows ∙ ap (λ (n : ℕ). detail_from n (entries (names_of rows) rows)) (sym same) ∙ sym (detail_none rows row k h.settled);
  part_numbers = h.part_numbers;
  settled = settled_with_none rows row k h.settled;
  headed = λ z. head_remark rows row e ∙ h.headed (sym same ∙ z);
}
  where
    k : kind_of row ≡ None
    k = remark_kind row e

    same : dimension_of (rows ++ row ∷ []) ≡ dimension_of rows
    same = ap (λ (o : Option Row). option_map_or head_dimension o 0) (head_remark rows row e)

not_zero : (n m : ℕ) → (n == 0) ≡ false → m ≡ n → m ≡ 0 → ⊥
not_zero n m f e z = no (sym f ∙ eq-eqb n 0 (sym e ∙ z))
  where
    no : false ≡ true → ⊥
    no e = cc

with_head : (d : Draft) (rows : List Row) (numbers : List ℕ) (row : Row) (dimension : ℕ) → HoldsRows d rows numbers
    → is_remark row ≡ false → (d.detail.dimension == 0) ≡ true → head_dimension row ≡ dimension → (dimension == 0) ≡ false
    → HoldsRows (record d { detail = record d.detail { dimension = dimension } }) (rows ++ row ∷ []) numbers
with_head d rows numbers row dimension h e z f g = record {
  names = h.names ∙ sym (more_none rows row k);
  detail = ap (λ (x : Detail). let y : Detail = record x { dimension = dimension } in y) (h.detail ∙ detail_is rows)
      ∙ ap (λ (n : ℕ). detail_from n (entries (names_of rows) rows)) (sym new) ∙ sym (detail_none rows row k h.settled);
  part_numbers = h.part_numbers;
  settled = settled_with_none rows row k h.settled;
  headed = λ y. absurd (not_zero dimension (dimension_of (rows ++ row ∷ [])) g new y);
}
  where
    k : kind_of row ≡ None
    k = head_kind row (ap (λ (n : ℕ). n == 0) f ∙ g)

    first : head_of (rows ++ row ∷ []) ≡ Some row
    first = head_first rows row e (h.headed (sym (dimension_is d rows numbers h) ∙ eqb-true d.detail.dimension 0 z))

    new : dimension_of (rows ++ row ∷ []) ≡ dimension
    new = ap (λ (o : Option Row). option_map_or head_dimension o 0) first ∙ f

with_kind : (d : Draft) (rows : List Row) (numbers : List ℕ) (number : ℕ) (row : Row) (k : RecordKind) (vs : List FieldValue) → HoldsRows d rows numbers
    → (d.detail.dimension == 0) ≡ false → kind_of row ≡ Some k → kind_fault (names_of rows) d.detail k row ≡ None → values (names_of rows) (fields k) row ≡ vs
    → HoldsRows (with_said (said.Record k vs) number row d) (rows ++ row ∷ []) (with_if (same_kind kind.Part (Some k)) number numbers)
with_kind d rows numbers number row k vs h z e f v = record {
  names = names_kind d.names rows row k e h.names;
  detail = ap (with_entry (entry_of k vs row)) (h.detail ∙ detail_is rows ∙ ap (λ (n : ℕ). detail_from n (entries (names_of rows) rows)) (sym same))
      ∙ sym (detail_kind rows row d.detail k vs e v s h.settled);
  part_numbers = ap (with_if (same_kind kind.Part (Some k)) number) h.part_numbers;
  settled = settled_with_kind rows row d.detail k e s h.settled;
  headed = λ y. absurd (not_zero d.detail.dimension (dimension_of (rows ++ row ∷ [])) z (same ∙ sym (dimension_is d rows numbers h)) y);
}
  where
    s : IsSound (names_of rows) d.detail k row
    s = sound (names_of rows) d.detail k row f

    same : dimension_of (rows ++ row ∷ []) ≡ dimension_of rows
    same = ap (λ (o : Option Row). option_map_or head_dimension o 0) (head_stays rows row (ap (λ (n : ℕ). n == 0) (sym (dimension_is d rows numbers h)) ∙ z))

numbers_more : (given : List Numbered) (number : ℕ) (row : Row) → part_numbers (given ++ (number, row) ∷ []) ≡ with_if (same_kind kind.Part (kind_of row)) number (part_numbers given)
numbers_more given number row = select_push (λ (r : Numbered). r.0) (λ (r : Numbered). same_kind kind.Part (kind_of r.1)) given (number, row)

pub rows_more : (given : List Numbered) (number : ℕ) (row : Row) → rows_of (given ++ (number, row) ∷ []) ≡ rows_of given ++ row ∷ []
rows_more given number row = map_push (λ (r : Numbered). r.1) given (number, row)

-- what a draft holds after one more record that was read without a fault
holds_more : (d : Draft) (given : List Numbered) (s : Said) (number : ℕ) (row : Row) → Holds d given → reading_behind d row ≡ Ok s → Holds (with_said s number row d) (given ++ (number, row) ∷ [])
holds_more d given s number row h r = by s (subst (λ (names : NamesByKind). Says s names d.detail row) h.names (says (names_in d.names) d.detail row s r))
  where
    moved : (new : Draft) (b : Bool) → same_kind kind.Part (kind_of row) ≡ b → HoldsRows new (rows_of given ++ row ∷ []) (with_if b number (part_numbers given)) → Holds new (given ++ (number, row) ∷ [])
    moved new b e k =
        subst (λ (rows : List Row). HoldsRows new rows (part_numbers (given ++ (number, row) ∷ []))) (sym (rows_more given number row))
        (subst (λ (numbers : List ℕ). HoldsRows new (rows_of given ++ row ∷ []) numbers) (sym (numbers_more given number row ∙ ap (λ (b : Bool). with_if b number (part_numbers given)) e)) k)

    by : (s : Said) → Says s (names_of (rows_of given)) d.detail row → Holds (with_said s number row d) (given ++ (number, row) ∷ [])
    by said.Remark e = moved d false (ap (same_kind kind.Part) (remark_kind row e)) (with_remark d (rows_of given) (part_numbers given) row h e)
    by (said.Head dimension) e = moved _ false (ap (same_kind kind.Part) (head_kind row (ap (λ (n : ℕ). n == 0) e.2 ∙ e.3))) (with_head d (rows_of given) (part_numbers given) row dimension h e.0 e.1 e.2 e.3)
    by (said.Record k vs) e = moved _ (same_kind kind.Part (Some k)) (ap (same_kind kind.Part) e.2) (with_kind d (rows_of given) (part_numbers given) number row k vs h e.1 e.2 e.3 e.4)

-- the fault behind a draft is the fault behind the records that it holds
pub fault_behind : (d : Draft) (given : List Numbered) (row : Row) → Holds d given → record_fault (names_in d.names) d.detail row ≡ fault_of (rows_of given) row
fault_behind d given row h =
    ap (λ (names : NamesByKind). record_fault names d.detail row) h.names
    ∙ ap (λ (x : Detail). record_fault (names_of (rows_of given)) x row) h.detail

pub taken : (d new : Draft) (given : List Numbered) (s : Said) (number : ℕ) (row : Row) → Holds d given → reading_behind d row ≡ Ok s → new ≡ with_said s number row d → Takes (Ok tt) given number row new
taken d new given s number row h r e = (
  sym (fault_behind d given row h) ∙ (unless_ok _ _ s (sym r)).0,
  subst (λ (x : Draft). Holds x (given ++ (number, row) ∷ [])) (sym e) (holds_more d given s number row h r),
)

pub refused : (d : Draft) (given : List Numbered) (f : FieldFault) (row : Row) → Holds d given → reading_behind d row ≡ Err f → fault_of (rows_of given) row ≡ Some f
refused d given f row h r = sym (fault_behind d given row h) ∙ unless_err _ _ f (sym r)

-- the name that a record declares is new
pub declared_is_new : (d : Draft) (row : Row) (k : RecordKind) (vs : List FieldValue) → reading_behind d row ≡ Ok (said.Record k vs) → IsNewName (names_in d.names) (declares k) (text_at row 1)
declared_is_new d row k vs r =
    let s = says (names_in d.names) d.detail row (said.Record k vs) r in
    new_name (names_in d.names) d.detail k row (sound (names_in d.names) d.detail k row s.3)

pub no_names_in : names_in no_names ≡ names_of []
no_names_in = λ i k. by k i
  where
    by : (k : NameKind) → names_in no_names k ≡ []
    by name.Environment = refl
    by name.Material = refl
    by name.Part = refl
    by name.Psi = refl
    by name.Chi = refl

-- a draft of no records
pub holds_none : (d : Draft) → names_in d.names ≡ names_of [] → d.detail ≡ detail_from 0 [] → d.part_numbers ≡ [] → Holds d []
unfolding detail_of
holds_none d n e f = record { names = n; detail = e; part_numbers = f; settled = tt; headed = λ z. refl }
