-- The text of plain records is what `csv` writes for them, and so it reads back.
use Rattle.std.proofs.Common.{◌≡◌, ◌∙◌, ap, refl, sym, ◌<◌, ◌++◌, ℕ, suc, List, [], ◌∷◌, length, Bool, true, false, arith}
use Rattle.std.proofs.lemmas.Bool.{cond_both, eqb-true, ne_eqb}
use Rattle.std.proofs.lemmas.List.{append-nil}
use Rattle.std.specs.Prelude.{◌==◌, ◌&&◌, ◌||◌, not}
use Rattle.std.specs.List.{join_with_byte, list_all, list_any}
use Rattle.csv.specs.Machine.{next_record}
use Rattle.csv.specs.Reading.{default_config, is_bom, records, strip_bom}
use Rattle.csv.specs.Writing.{default_writer, field_text, fields_text, is_blank, needs_byte, row_text}
use Rattle.csv.specs.declared.parser.State.TheVariants as st
use Rattle.csv.proofs.RoundTrip.{read-write}
use Rattle.tb_records.specs.Ahead.{records_after}
use Rattle.tb_records.specs.Plain as plain
use Rattle.tb_records.specs.Plain.{begins_with_mark, is_plain, is_plain_record, is_special, record_text, records_text}
use Rattle.tb_records.specs.Records.{records_of}
use Rattle.tb_records.proofs.Turns.{records_after-none, records_after-some, records_after-start}

both : (a b : Bool) → (a && b) ≡ true → (a ≡ true) × (b ≡ true)
both true b h = (refl, h)
both false b h = cc h

no : (a : Bool) → not a ≡ true → a ≡ false
no true h = cc h
no false h = refl

-- ---- a plain field needs no quotes

needless : (a b c d : Bool) → not (a || b || c || d) ≡ true → (a || b || (c || d) || false || false) ≡ false
needless true b c d h = cc h
needless false true c d h = cc h
needless false false true d h = cc h
needless false false false true h = cc h
needless false false false false h = refl

plain_byte : (c : ℕ) → not (is_special c) ≡ true → needs_byte default_writer c ≡ false
plain_byte c h = needless (c == 44) (c == 34) (c == 13) (c == 10) h

plain_field : (field : List ℕ) → is_plain field ≡ true → list_any (needs_byte default_writer) field ≡ false
plain_field [] h = refl
plain_field (c ∷ rest) h =
    let b = both _ _ h in
    rw (plain_byte c b.0) (plain_field rest b.1)

plain_text : (field : List ℕ) → is_plain field ≡ true → field_text default_writer field ≡ field
plain_text field h = rw (plain_field field h) refl

-- ---- the text of a record

fields_joined : (field : List ℕ) (rest : List (List ℕ)) → list_all is_plain (field ∷ rest) ≡ true
    → field_text default_writer field ++ fields_text default_writer rest ≡ join_with_byte 44 (field ∷ rest)
unfolding fields_text
fields_joined field [] h = append-nil (field_text default_writer field) ∙ plain_text field (both _ _ h).0
fields_joined field (next ∷ rest) h =
    let b = both _ _ h in
    rw (plain_text field b.0) (ap (λ (t : List ℕ). field ++ (44 ∷ t)) (fields_joined next rest b.1))

not_blank : (row : List (List ℕ)) → list_all is_plain row ≡ true → plain.is_blank row ≡ false → is_blank default_writer row ≡ false
unfolding is_blank
not_blank [] h k = cc k
not_blank ([] ∷ []) h k = cc k
not_blank ((c ∷ rest) ∷ []) h k = rw (plain_text (c ∷ rest) (both _ _ h).0) (ne_eqb (suc (length rest)) 0 (λ e. cc e))
not_blank (field ∷ next ∷ rest) h k = refl

plain_row : (row : List (List ℕ)) → is_plain_record row ≡ true → row_text default_writer row ≡ record_text row
plain_row [] h = cc h
plain_row (field ∷ rest) h =
    let b = both _ _ h in
    rw (not_blank (field ∷ rest) b.0 (no _ b.1)) (ap (λ (t : List ℕ). t ++ (10 ∷ [])) (fields_joined field rest b.0))

-- ---- the records of the text

record_read : (row : List (List ℕ)) (tail : List ℕ) → is_plain_record row ≡ true
    → records_after st.StartRecord (record_text row ++ tail) ≡ row ∷ records_after st.StartRecord tail
record_read [] tail h = cc h
record_read (field ∷ rest) tail h =
    records_after-some st.StartRecord _ (field ∷ rest, st.StartRecord, tail) (rw (← plain_row (field ∷ rest) h) (read-write (field ∷ rest) tail))

all_read : (rows : List (List (List ℕ))) → list_all is_plain_record rows ≡ true → records_after st.StartRecord (records_text rows) ≡ rows
unfolding next_record
all_read [] h = records_after-none st.StartRecord [] refl
all_read (row ∷ rows) h =
    let b = both _ _ h in
    record_read row (records_text rows) b.0 ∙ ap (λ (rest : List (List (List ℕ))). row ∷ rest) (all_read rows b.1)

marked : (a b c : ℕ) (rest : List ℕ) → is_bom a b c ≡ true → begins_with_mark (a ∷ b ∷ c ∷ rest) ≡ false → ⊥
marked a b c rest e h =
    let x = both _ _ e in
    let y = both _ _ x.0 in
    let mark : begins_with_mark (a ∷ b ∷ c ∷ rest) ≡ true = rw (eqb-true a 0xEF y.0, eqb-true b 0xBB y.1, eqb-true c 0xBF x.1) refl in
    cc (sym h ∙ mark)

unmarked : (text : List ℕ) → begins_with_mark text ≡ false → strip_bom text ≡ text
unfolding strip_bom
unmarked [] h = refl
unmarked (a ∷ []) h = refl
unmarked (a ∷ b ∷ []) h = refl
unmarked (a ∷ b ∷ c ∷ rest) h =
    cond_both (is_bom a b c) rest (a ∷ b ∷ c ∷ rest) (λ text. text ≡ a ∷ b ∷ c ∷ rest) (λ e. absurd (marked a b c rest e h)) (λ e. refl)

pub plain_records_read_back : (rows : List (List (List ℕ))) → list_all is_plain_record rows ≡ true → begins_with_mark (records_text rows) ≡ false
    → records_of (records_text rows) ≡ rows
plain_records_read_back rows h k =
    ap (records default_config) (unmarked (records_text rows) k) ∙ sym (records_after-start (records_text rows)) ∙ all_read rows h

pub ascii_is_no_mark : (first : ℕ) (word : List ℕ) (fields : List (List ℕ)) (rows : List (List (List ℕ))) → first < 128
    → begins_with_mark (records_text (((first ∷ word) ∷ fields) ∷ rows)) ≡ false
ascii_is_no_mark first word [] rows h = rw (ne_eqb 0xEF first (λ e. omega arith)) refl
ascii_is_no_mark first word (field ∷ fields) rows h = rw (ne_eqb 0xEF first (λ e. omega arith)) refl
