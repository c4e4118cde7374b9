-- A record that is written by the table of kinds reads back by it: one lemma for each rule of a field, and one for a record.
use Rattle.std.proofs.Common.{◌≡◌, ap, refl, ℕ, zero, suc, ◌+◌, ◌<◌, ◌≤◌, ◌≤ℤ◌, ℤ, int_lt, true, false, List, [], ◌∷◌, length, map, replicate, Some, None, All, arith, unsigned_abs}
use Rattle.std.proofs.lemmas.Bool.{lt-ltb}
use Rattle.std.proofs.lemmas.Int.{ints}
use Rattle.std.proofs.lemmas.List.Elements.{All-head, All-tail}
use Rattle.std.specs.List.{list_all}
use Rattle.tb_records.specs.Plain.{is_plain}
use Rattle.tb_detail.specs.Names.{Text, is_name}
use Rattle.tb_detail.specs.Quantities.{IsInRange}
use Rattle.tb_detail.specs.declared.quantity.Quantity.{Quantity}
use Rattle.tb_reading.specs.declared.kinds.FieldRule.{FieldRule}
use Rattle.tb_reading.specs.declared.kinds.FieldRule.TheVariants.{Word, Declares, BelongsTo, Uses, UsesOther, Reads, ReadsAbove, ReadsPsi, ReadsPsiFrom}
use Rattle.tb_reading.specs.declared.kinds.NameKind.{NameKind}
use Rattle.tb_reading.specs.declared.kinds.RecordKind.{RecordKind}
use Rattle.tb_reading.specs.declared.kinds.RecordKind.TheVariants as kind
use Rattle.tb_reading.specs.declared.values.FieldValue.{FieldValue}
use Rattle.tb_reading.specs.declared.values.FieldValue.TheVariants.{Nothing, Number, Place, Signed}
use Rattle.tb_reading.specs.Kinds.{word}
use Rattle.tb_reading.specs.Names.{NamesByKind, place_of}
use Rattle.tb_reading.specs.Records.{field_fault, field_faults, first_some, is_place, number_in, signed_in, value, values}
use Rattle.tb_canonical.specs.Canonical.{field_text, field_texts, name_at}
use Rattle.tb_canonical.proofs.FieldReading.{number_read, psi_read}
use Rattle.tb_canonical.proofs.PlainFields.{name_plain, number_plain, psi_plain}

-- ---- one field

-- a name that none of these names is
pub record IsNew (names : List Text) (name : Text) : Type 0 where
  pub formed : is_name name ≡ true
  pub new : place_of names name ≡ None

-- a name that is found at this place
pub record IsAt (names : List Text) (name : Text) (place : ℕ) : Type 0 where
  pub formed : is_name name ≡ true
  pub found : place_of names name ≡ Some place

-- a value can be written by a rule, behind these names and the value of the field before
abbrev pub Fits : NamesByKind → Text → FieldRule → FieldValue → FieldValue → Type 0
Fits names item Word before Nothing = Unit {0}
Fits names item (Declares k) before Nothing = IsNew (names k) item
Fits names item (BelongsTo k) before (Place place) = IsAt (names k) item place
Fits names item (Uses k) before (Place place) = IsAt (names k) (name_at (names k) place) place
Fits names item (UsesOther k) before (Place place) = IsAt (names k) (name_at (names k) place) place × (is_place place before ≡ false)
Fits names item (Reads q) before (Number n) = IsInRange q n
Fits names item (ReadsAbove q) before (Number n) = IsInRange q n × (number_in before < n)
Fits names item ReadsPsi before (Signed z) = unsigned_abs z ≤ 1000000000
Fits names item ReadsPsiFrom before (Signed z) = (unsigned_abs z ≤ 1000000000) × (signed_in before ≤ℤ z)
Fits names item _ before _ = ⊥

not_below : (lo hi : ℤ) → lo ≤ℤ hi → int_lt hi lo ≡ false
not_below lo hi h = grind (arith, ints)

word_plain : (k : RecordKind) → is_plain (word k) ≡ true
word_plain kind.Environment = refl
word_plain kind.Material = refl
word_plain kind.Solid = refl
word_plain kind.Air = refl
word_plain kind.Part = refl
word_plain kind.Layer = refl
word_plain kind.Psi = refl
word_plain kind.Length = refl
word_plain kind.Chi = refl
word_plain kind.Area = refl
word_plain kind.Line = refl

module _ (names : NamesByKind) (k : RecordKind) (item : Text) where
  -- the text of a value is plain, and reads as the value without a fault
  pub record ReadsBack (rule : FieldRule) (before v : FieldValue) : Type 0 where
    pub plain : is_plain (field_text names k item rule v) ≡ true
    pub faultless : field_fault names rule before (field_text names k item rule v) ≡ None
    pub gives : value names rule (field_text names k item rule v) ≡ v

  field_back : (rule : FieldRule) (before v : FieldValue) → Fits names item rule before v → ReadsBack rule before v
  field_back Word before Nothing h = record { plain = word_plain k; faultless = refl; gives = refl }
  field_back (Declares of) before Nothing h = record { plain = name_plain item h.formed; faultless = rw (h.formed, h.new) refl; gives = refl }
  field_back (BelongsTo of) before (Place place) h = record { plain = name_plain item h.formed; faultless = rw h.found refl; gives = rw h.found refl }
  field_back (Uses of) before (Place place) h = record { plain = name_plain (name_at (names of) place) h.formed; faultless = rw h.found refl; gives = rw h.found refl }
  field_back (UsesOther of) before (Place place) h =
      record { plain = name_plain (name_at (names of) place) h.0.formed; faultless = rw (h.0.found, h.1) refl; gives = rw h.0.found refl }
  field_back (Reads q) before (Number n) h = record { plain = number_plain q n h; faultless = rw (number_read q n h) refl; gives = rw (number_read q n h) refl }
  field_back (ReadsAbove q) before (Number n) h =
      record { plain = number_plain q n h.0; faultless = rw (number_read q n h.0, lt-ltb (number_in before) n h.1) refl; gives = rw (number_read q n h.0) refl }
  field_back ReadsPsi before (Signed z) h = record { plain = psi_plain z h; faultless = rw (psi_read z h) refl; gives = rw (psi_read z h) refl }
  field_back ReadsPsiFrom before (Signed z) h =
      record { plain = psi_plain z h.0; faultless = rw (psi_read z h.0, not_below (signed_in before) z h.1) refl; gives = rw (psi_read z h.0) refl }
  field_back _ before _ h = absurd h

  -- ---- the fields of a record

  abbrev pub AllFit : FieldValue → List FieldRule → List FieldValue → Type 0
  AllFit before rules [] = Unit {0}
  AllFit before [] (v ∷ vs) = ⊥
  AllFit before (rule ∷ rules) (v ∷ vs) = Fits names item rule before v × AllFit v rules vs

  pub record AllReadBack (n : ℕ) (before : FieldValue) (rules : List FieldRule) (vs : List FieldValue) : Type 0 where
    pub plain : list_all is_plain (field_texts names k item rules vs) ≡ true
    pub faultless : first_some (field_faults names n before rules (field_texts names k item rules vs)) ≡ None
    pub gives : values names rules (field_texts names k item rules vs) ≡ vs
    pub size : length (field_texts names k item rules vs) ≡ length vs

  pub fields_back : (n : ℕ) (before : FieldValue) (rules : List FieldRule) (vs : List FieldValue) → AllFit before rules vs → AllReadBack n before rules vs
  fields_back n before [] [] h = record { plain = refl; faultless = refl; gives = refl; size = refl }
  fields_back n before [] (v ∷ vs) h = absurd h
  fields_back n before (rule ∷ rules) [] h = record { plain = refl; faultless = refl; gives = refl; size = refl }
  fields_back n before (rule ∷ rules) (v ∷ vs) h =
      let here = field_back rule before v h.0 in
      let rest = fields_back (n + 1) v rules vs h.1 in
      record {
        plain = rw (here.plain, rest.plain) refl;
        faultless = rw (here.faultless, here.gives) rest.faultless;
        gives = rw (here.gives, rest.gives) refl;
        size = ap suc rest.size;
      }

  -- ---- the rest of a record, repeated by a rule

  pub numbers_fit : (q : Quantity) (most : ℕ) (before : FieldValue) (ns : List ℕ) → length ns ≤ most → All (IsInRange q) ns → AllFit before (replicate most (Reads q)) (map Number ns)
  numbers_fit q most before [] l h = tt
  numbers_fit q zero before (n ∷ ns) l h = absurd (omega arith)
  numbers_fit q (suc most) before (n ∷ ns) l h = (All-head (IsInRange q) n ns h, numbers_fit q most (Number n) ns (omega arith) (All-tail (IsInRange q) n ns h))

  pub places_fit : (of : NameKind) (most : ℕ) (before : FieldValue) (places : List ℕ) → length places ≤ most → All (λ place. IsAt (names of) (name_at (names of) place) place) places
      → AllFit before (replicate most (Uses of)) (map Place places)
  places_fit of most before [] l h = tt
  places_fit of zero before (place ∷ places) l h = absurd (omega arith)
  places_fit of (suc most) before (place ∷ places) l h = (
    All-head (λ place. IsAt (names of) (name_at (names of) place) place) place places h,
    places_fit of most (Place place) places (omega arith) (All-tail (λ place. IsAt (names of) (name_at (names of) place) place) place places h),
  )

-- ---- other names

-- names that are the same where these rules use them
abbrev pub Agree : NamesByKind → NamesByKind → List FieldRule → Type 0
Agree names others [] = Unit {0}
Agree names others (Uses k ∷ rules) = (names k ≡ others k) × Agree names others rules
Agree names others (UsesOther k ∷ rules) = (names k ≡ others k) × Agree names others rules
Agree names others (_ ∷ rules) = Agree names others rules

module _ (names others : NamesByKind) (k : RecordKind) (item : Text) where
  agree_rest : (rule : FieldRule) (rules : List FieldRule) → Agree names others (rule ∷ rules) → Agree names others rules
  agree_rest (Uses of) rules h = h.1
  agree_rest (UsesOther of) rules h = h.1
  agree_rest _ rules h = h

  agree_text : (rule : FieldRule) (rules : List FieldRule) (v : FieldValue) → Agree names others (rule ∷ rules) → field_text names k item rule v ≡ field_text others k item rule v
  agree_text (Uses of) rules v h = rw h.0 refl
  agree_text (UsesOther of) rules v h = rw h.0 refl
  agree_text _ rules v h = refl

  pub same_texts : (rules : List FieldRule) (vs : List FieldValue) → Agree names others rules → field_texts names k item rules vs ≡ field_texts others k item rules vs
  same_texts [] vs h = refl
  same_texts (rule ∷ rules) [] h = refl
  same_texts (rule ∷ rules) (v ∷ vs) h = rw (agree_text rule rules v h, same_texts rules vs (agree_rest rule rules h)) refl
