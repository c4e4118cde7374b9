-- Texts that are put piece by piece: a record word first, and then each field behind a comma.
use Rattle.std.proofs.Common.{◌≡◌, ◌∙◌, ap, refl, sym, ℕ, zero, suc, ◌+◌, ◌<◌, List, [], ◌∷◌, ◌++◌, Bor, map, length, take, drop, get_or, Option, arith, append_assoc, append-nil, add-one}
use Rattle.std.proofs.lemmas.Grind.{flat_map-append}
use Rattle.std.proofs.lemmas.List.Folds.{flat_map-map}
use Rattle.std.specs.List.{flat_map, join_with_byte}
use Rattle.tb_outside.proofs.Each.{each_next}
use Rattle.tb_outside.proofs.Gathered.{gathers_both, gathers_same}
use Rattle.tb_outside.specs.Buffers.{Gathers}
use Rattle.tb_records.specs.Plain.{record_text, records_text}
use Rattle.tb_detail.specs.Names.{Text}
use Rattle.tb_reading.specs.declared.kinds.FieldRule.{FieldRule}
use Rattle.tb_reading.specs.declared.kinds.FieldRule.TheVariants.{Word}
use Rattle.tb_reading.specs.declared.kinds.RecordKind.{RecordKind}
use Rattle.tb_reading.specs.declared.kinds.RecordKind.TheVariants as kind
use Rattle.tb_reading.specs.declared.values.FieldValue.{FieldValue}
use Rattle.tb_reading.specs.declared.values.FieldValue.TheVariants.{Nothing}
use Rattle.tb_reading.specs.Kinds.{fields, word}
use Rattle.tb_reading.specs.Names.{NamesByKind}
use Rattle.tb_canonical.specs.Canonical.{field_text, field_texts, row_of}

-- fields with a comma before each
abbrev pub behind_commas : List (List ℕ) → List ℕ
behind_commas fields = flat_map (λ field. 44 ∷ field) fields

joined : (word : List ℕ) (fields : List (List ℕ)) → word ++ behind_commas fields ≡ join_with_byte 44 (word ∷ fields)
joined word [] = append-nil word
joined word (field ∷ fields) = ap (λ (text : List ℕ). word ++ (44 ∷ text)) (joined field fields)

-- ---- fields behind references

abbrev pub behind_comma : Bor (List ℕ) → List ℕ
behind_comma field = 44 ∷ field.now

referred : (fields : List (Bor (List ℕ))) → flat_map behind_comma fields ≡ behind_commas (map (λ field. field.now) fields)
referred [] = refl
referred (field ∷ fields) = ap (λ (text : List ℕ). 44 ∷ (field.now ++ text)) (referred fields)

pub fields_joined : (word : List ℕ) (fields : List (Bor (List ℕ))) → (word ++ flat_map behind_comma fields) ++ (10 ∷ []) ≡ record_text (word ∷ map (λ field. field.now) fields)
fields_joined word fields = ap (λ (text : List ℕ). text ++ (10 ∷ [])) (ap (λ (text : List ℕ). word ++ text) (referred fields) ∙ joined word (map (λ field. field.now) fields))

-- an item of a list behind a text and the items before it
pub gathers_behind : {T K : Type 0} {h : K → Option (List ℕ)} {f : K → ℕ} {a b c : K} {u v w : Option (List ℕ)} (s : List ℕ) (text : T → List ℕ) (xs : List T) (i : ℕ) (d : T) → i < length xs
    → Gathers h f a b u (s ++ flat_map text (take i xs)) v → Gathers h f b c v (text (get_or xs i d)) w → Gathers h f a c u (s ++ flat_map text (take (i + 1) xs)) w
gathers_behind s text xs i d fits before item =
    gathers_same (append_assoc s (flat_map text (take i xs)) (text (get_or xs i d)) ∙ ap (λ (t : List ℕ). s ++ t) (sym (each_next text xs i d fits))) (gathers_both before item)

-- ---- a record by the table of kinds

module _ (names : NamesByKind) (k : RecordKind) (item : Text) where
  abbrev pub texts : List FieldRule → List FieldValue → List Text
  texts rules vs = field_texts names k item rules vs

  -- the word of the record, and then the fields so far
  abbrev pub text_so_far : List FieldValue → List ℕ
  text_so_far vs = word k ++ behind_commas (texts (drop 1 (fields k)) vs)

  no_texts : (rules : List FieldRule) → texts rules [] ≡ []
  no_texts [] = refl
  no_texts (rule ∷ rules) = refl

  pub word_alone : word k ≡ text_so_far []
  word_alone = sym (ap (λ (ts : List Text). word k ++ behind_commas ts) (no_texts (drop 1 (fields k))) ∙ append-nil (word k))

  texts_next : (rules : List FieldRule) (vs : List FieldValue) (i : ℕ) → i < length rules → i < length vs
      → texts rules (take (suc i) vs) ≡ texts rules (take i vs) ++ (field_text names k item (get_or rules i Word) (get_or vs i Nothing) ∷ [])
  texts_next [] vs i h l = absurd (omega arith)
  texts_next (rule ∷ rules) [] i h l = absurd (omega arith)
  texts_next (rule ∷ rules) (v ∷ vs) zero h l = ap (λ (ts : List Text). field_text names k item rule v ∷ ts) (no_texts rules)
  texts_next (rule ∷ rules) (v ∷ vs) (suc i) h l = ap (λ (ts : List Text). field_text names k item rule v ∷ ts) (texts_next rules vs i (omega arith) (omega arith))

  later : (rules : List FieldRule) (i : ℕ) → get_or rules (i + 1) Word ≡ get_or (drop 1 rules) i Word
  later [] i = refl
  later (rule ∷ rules) i = rw add-one refl

  shorter : (rules : List FieldRule) (i : ℕ) → i + 1 < length rules → i < length (drop 1 rules)
  shorter [] i h = absurd (omega arith)
  shorter (rule ∷ rules) i h = omega arith

  -- one field more
  pub text_next : (vs : List FieldValue) (i : ℕ) → i + 1 < length (fields k) → i < length vs
      → (text_so_far (take i vs) ++ (44 ∷ [])) ++ field_text names k item (get_or (fields k) (i + 1) Word) (get_or vs i Nothing) ≡ text_so_far (take (i + 1) vs)
  text_next vs i h l =
      let here = field_text names k item (get_or (drop 1 (fields k)) i Word) (get_or vs i Nothing) in
      let done = texts (drop 1 (fields k)) (take i vs) in
      ap (λ (rule : FieldRule). (text_so_far (take i vs) ++ (44 ∷ [])) ++ field_text names k item rule (get_or vs i Nothing)) (later (fields k) i)
      ∙ append_assoc (text_so_far (take i vs)) (44 ∷ []) here
      ∙ append_assoc (word k) (behind_commas done) (44 ∷ here)
      ∙ ap (λ (text : List ℕ). word k ++ text)
      (ap (λ (text : List ℕ). behind_commas done ++ text) (sym (append-nil (44 ∷ here))) ∙ sym (flat_map-append (λ field. 44 ∷ field) done (here ∷ []))
      ∙ ap behind_commas (sym (texts_next (drop 1 (fields k)) vs i (shorter (fields k) i h) l)
      ∙ ap (λ (n : ℕ). texts (drop 1 (fields k)) (take n vs)) (sym (add-one i))))

row_begins : (names : NamesByKind) (k : RecordKind) (item : Text) (vs : List FieldValue) → row_of names k item vs ≡ word k ∷ field_texts names k item (drop 1 (fields k)) vs
row_begins names kind.Environment item vs = refl
row_begins names kind.Material item vs = refl
row_begins names kind.Solid item vs = refl
row_begins names kind.Air item vs = refl
row_begins names kind.Part item vs = refl
row_begins names kind.Layer item vs = refl
row_begins names kind.Psi item vs = refl
row_begins names kind.Length item vs = refl
row_begins names kind.Chi item vs = refl
row_begins names kind.Area item vs = refl
row_begins names kind.Line item vs = refl

-- the whole record
pub row_text : (names : NamesByKind) (k : RecordKind) (item : Text) (vs : List FieldValue) → text_so_far names k item vs ++ (10 ∷ []) ≡ record_text (row_of names k item vs)
row_text names k item vs =
    ap (λ (text : List ℕ). text ++ (10 ∷ [])) (joined (word k) (field_texts names k item (drop 1 (fields k)) vs))
    ∙ ap record_text (sym (row_begins names k item vs))

-- the text of a list of records, each made of an item
pub mapped_text : {X : Type 0} (row : X → List (List ℕ)) (xs : List X) → records_text (map row xs) ≡ flat_map (λ x. record_text (row x)) xs
mapped_text row xs = flat_map-map record_text row xs
