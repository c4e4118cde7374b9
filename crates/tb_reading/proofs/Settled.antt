-- Records whose values stay as they are, however many names follow.
use Rattle.std.proofs.Common.{◌≡◌, ℕ, ◌+◌, ◌<◌, ◌≤◌, ◌==◌, ◌||◌, ◌&&◌, Bool, true, false, not, cond, List, [], ◌∷◌, ◌++◌, length, Option, Some, None, refl, sym, ap, ◌∙◌, subst, arith, if◌then◌else◌, nat_le, nat_lt, position, length-append, append_assoc, lit≤, option_map, drop}
use Rattle.std.proofs.lemmas.Bool.{leb-true, leb-false, lt-ltb, eqb-true, ne_eqb}
use Rattle.std.specs.List.{position_or_len}
use Rattle.std.specs.Option.{option_or}
use Rattle.std.specs.Str.{bytes_eq}
use Rattle.csv.specs.Records.{field_at}
use Rattle.tb_detail.specs.declared.Detail.{Detail}
use Rattle.tb_reading.specs.declared.fault.DetailKind.{DetailKind}
use Rattle.tb_reading.specs.declared.fault.DetailKind.TheVariants as fault
use Rattle.tb_reading.specs.declared.fault.FieldFault.{FieldFault}
use Rattle.tb_reading.specs.declared.kinds.RecordKind.{RecordKind}
use Rattle.tb_reading.specs.declared.kinds.RecordKind.TheVariants as kind
use Rattle.tb_reading.specs.declared.kinds.NameKind.{NameKind}
use Rattle.tb_reading.specs.declared.kinds.NameKind.TheVariants as name
use Rattle.tb_reading.specs.declared.kinds.FieldRule.{FieldRule}
use Rattle.tb_reading.specs.declared.kinds.FieldRule.TheVariants.{Word, Declares, BelongsTo, Uses, UsesOther, Reads, ReadsAbove, ReadsPsi, ReadsPsiFrom}
use Rattle.tb_reading.specs.declared.values.FieldValue.{FieldValue}
use Rattle.tb_reading.specs.declared.values.FieldValue.TheVariants.{Nothing, Place}
use Rattle.tb_reading.specs.Details.{entry, same_kind}
use Rattle.tb_reading.specs.Drafts.{AreSettled, IsNewName, IsSettled, IsStrange, longer}
use Rattle.tb_reading.specs.Kinds.{declares, fields, is_allowed}
use Rattle.tb_detail.specs.Names.{Text, is_name}
use Rattle.tb_reading.specs.Names.{NamesByKind, name_count, place_of}
use Rattle.tb_reading.specs.Records.{Row, at_field, fault_if, field_fault, field_faults, first_some, is_count, is_full, is_place, kind_fault, kind_of, name_fault, pair_fault, place_value, sections_of, text_at, use_fault, value, value_at, values, values_as}
use Rattle.tb_reading.proofs.NamePlaces.{place_within}

-- ---- places

-- a name that is in a list keeps its place in a longer one
keeps_place : (p : List ℕ → Bool) (xs ys : List (List ℕ)) → position_or_len p xs < length xs → position_or_len p (xs ++ ys) ≡ position_or_len p xs
keeps_place p [] ys h = absurd (omega arith)
keeps_place p (x ∷ xs) ys h = by (p x) refl (keeps_place p xs ys)
  where
    by : (b : Bool) → p x ≡ b → (position_or_len p xs < length xs → position_or_len p (xs ++ ys) ≡ position_or_len p xs) → position_or_len p (x ∷ xs ++ ys) ≡ position_or_len p (x ∷ xs)
    by true e ih = ap (λ (b : Bool). cond (not b) (1 + position_or_len p (xs ++ ys)) 0) e ∙ ap (λ (b : Bool). cond (not b) (1 + position_or_len p xs) 0) (sym e)
    by false e ih = ap (λ (b : Bool). cond (not b) (1 + position_or_len p (xs ++ ys)) 0) e ∙ ap (λ (n : ℕ). 1 + n) (ih (inner (subst (λ (b : Bool). cond (not b) (1 + position_or_len p xs) 0 < length (x ∷ xs)) e h))) ∙ ap (λ (b : Bool). cond (not b) (1 + position_or_len p xs) 0) (sym e)
      where
        inner : 1 + position_or_len p xs < length (x ∷ xs) → position_or_len p xs < length xs
        inner k = omega arith

place_is : (p : List ℕ → Bool) (xs : List (List ℕ)) (i : ℕ) → position p xs ≡ Some i → position_or_len p xs ≡ i
place_is p xs i h = by (nat_lt (position_or_len p xs) (length xs)) h
  where
    by : (b : Bool) → cond b (Some (position_or_len p xs)) None ≡ Some i → position_or_len p xs ≡ i
    by true f = cc
    by false f = cc

pub place_longer : (names more : List Text) (text : Text) (i : ℕ) → place_of names text ≡ Some i → place_of (names ++ more) text ≡ Some i
place_longer names more text i h =
    ap (λ (b : Bool). cond b (Some (position_or_len (bytes_eq text) (names ++ more))) None) (lt-ltb (position_or_len (bytes_eq text) (names ++ more)) (length (names ++ more)) below)
    ∙ ap Some at
  where
    within : i < length names
    within = place_within (bytes_eq text) names i h

    here : position_or_len (bytes_eq text) names ≡ i
    here = place_is (bytes_eq text) names i h

    at : position_or_len (bytes_eq text) (names ++ more) ≡ i
    at = keeps_place (bytes_eq text) names more (subst (λ (j : ℕ). j < length names) (sym here) within) ∙ here

    below : position_or_len (bytes_eq text) (names ++ more) < length (names ++ more)
    below = let e = length-append names more in let f = at in let w = within in omega arith

-- ---- values

pub used : (place : Option ℕ) → use_fault place ≡ None → (i : ℕ) × (place ≡ Some i)
used None h = cc
used (Some i) h = (i, refl)

paired : (before : FieldValue) (place : Option ℕ) → pair_fault before place ≡ None → (i : ℕ) × (place ≡ Some i)
paired before None h = cc
paired before (Some i) h = (i, refl)

value_longer : (names more : NamesByKind) (rule : FieldRule) (before : FieldValue) (text : Text) → field_fault names rule before text ≡ None → value (longer names more) rule text ≡ value names rule text
value_longer names more Word before text h = refl
value_longer names more (Declares k) before text h = refl
value_longer names more (BelongsTo k) before text h = let u = used (place_of (names k) text) h in ap place_value (place_longer (names k) (more k) text u.0 u.1 ∙ sym u.1)
value_longer names more (Uses k) before text h = let u = used (place_of (names k) text) h in ap place_value (place_longer (names k) (more k) text u.0 u.1 ∙ sym u.1)
value_longer names more (UsesOther k) before text h = let u = paired before (place_of (names k) text) h in ap place_value (place_longer (names k) (more k) text u.0 u.1 ∙ sym u.1)
value_longer names more (Reads q) before text h = refl
value_longer names more (ReadsAbove q) before text h = refl
value_longer names more ReadsPsi before text h = refl
value_longer names more ReadsPsiFrom before text h = refl

-- the first of some faults is none, and so are the others
pub none_first : (number : ℕ) (f : Option DetailKind) (rest : List (Option FieldFault)) → first_some (at_field number f ∷ rest) ≡ None → (f ≡ None) × (first_some rest ≡ None)
none_first number None rest h = (refl, h)
none_first number (Some f) rest h = cc

pub values_longer : (names more : NamesByKind) (number : ℕ) (before : FieldValue) (rules : List FieldRule) (row : Row) → first_some (field_faults names number before rules row) ≡ None → values (longer names more) rules row ≡ values names rules row
values_longer names more number before [] row h = refl
values_longer names more number before (rule ∷ rules) [] h = refl
values_longer names more number before (rule ∷ rules) (text ∷ row) h =
    let n = none_first number (field_fault names rule before text) (field_faults names (number + 1) (value names rule text) rules row) h in
    ap (λ (v : FieldValue). v ∷ values (longer names more) rules row) (value_longer names more rule before text n.0)
    ∙ ap (λ (vs : List FieldValue). value names rule text ∷ vs) (values_longer names more (number + 1) (value names rule text) rules row n.1)

-- ---- a record of a kind without a fault

pub neither : {X : Type 0} (a b : Option X) → option_or a b ≡ None → (a ≡ None) × (b ≡ None)
neither None b h = (refl, h)
neither (Some x) b h = cc

not_if : (b : Bool) (f : DetailKind) → fault_if b f ≡ None → b ≡ false
not_if true f h = cc
not_if false f h = refl

not_not : (b : Bool) → not b ≡ false → b ≡ true
not_not true h = refl
not_not false h = cc

-- what holds of a record of a kind that has no fault
pub record IsSound (names : NamesByKind) (d : Detail) (k : RecordKind) (row : Row) : Type 0 where
  pub allowed : is_allowed d.dimension k ≡ true
  pub count : is_count d.dimension (sections_of names d row) k (length row) ≡ true
  pub in_fields : first_some (field_faults names 1 Nothing (fields k) row) ≡ None
  pub room : is_full names d k (values names (fields k) row) ≡ false

pub sound : (names : NamesByKind) (d : Detail) (k : RecordKind) (row : Row) → kind_fault names d k row ≡ None → IsSound names d k row
sound names d k row h =
    let a = neither _ _ h in
    let b = neither _ _ a.1 in
    let e = neither _ _ b.1 in
    record {
      allowed = not_not _ (not_if _ fault.WrongDimension a.0);
      count = not_not _ (not_if _ fault.FieldCount b.0);
      in_fields = e.0;
      room = not_if _ fault.TooMany e.1;
    }

pub both : (a b : Bool) → (a && b) ≡ true → (a ≡ true) × (b ≡ true)
both true b h = (refl, h)
both false b h = cc

pub neither_is : (a b : Bool) → (a || b) ≡ false → b ≡ false
neither_is true b h = cc
neither_is false b h = h

exactly : (n m : ℕ) → 2 ≤ m → (n == m) ≡ true → 2 ≤ n
exactly n m l h = let e = eqb-true n m h in omega arith

between : (n low high : ℕ) → 2 ≤ low → (nat_le low n && nat_le n high) ≡ true → 2 ≤ n
between n low high l h = let e = leb-true low n (both _ _ h).0 in omega arith

either_count : (b : Bool) (low high n : ℕ) → 2 ≤ low → 2 ≤ high → (n == (if b then low else high)) ≡ true → 2 ≤ n
either_count true low high n l k h = exactly n low l h
either_count false low high n l k h = exactly n high k h

-- each record has a second field
count_two : (dimension : ℕ) (sections : Option ℕ) (k : RecordKind) (n : ℕ) → is_count dimension sections k n ≡ true → 2 ≤ n
count_two dimension sections kind.Environment n h = exactly n 2 (lit≤ tt) h
count_two dimension sections kind.Material n h = exactly n 3 (lit≤ tt) h
count_two dimension sections kind.Solid n h = either_count (dimension == 2) 6 8 n (lit≤ tt) (lit≤ tt) h
count_two dimension sections kind.Air n h = either_count (dimension == 2) 7 9 n (lit≤ tt) (lit≤ tt) h
count_two dimension sections kind.Part n h = between n 4 8 (lit≤ tt) h
count_two dimension None kind.Layer n h = between n 4 7 (lit≤ tt) h
count_two dimension (Some s) kind.Layer n h = let e = eqb-true n (s + 3) h in omega arith
count_two dimension sections kind.Psi n h = exactly n 4 (lit≤ tt) h
count_two dimension sections kind.Length n h = exactly n 4 (lit≤ tt) h
count_two dimension sections kind.Chi n h = exactly n 4 (lit≤ tt) h
count_two dimension sections kind.Area n h = exactly n 4 (lit≤ tt) h
count_two dimension sections kind.Line n h = exactly n 5 (lit≤ tt) h

two : (names : NamesByKind) (d : Detail) (k : RecordKind) (row : Row) → IsSound names d k row → 2 ≤ length row
two names d k row s = count_two d.dimension (sections_of names d row) k (length row) s.count

-- the fields behind the second
abbrev others : RecordKind → List FieldRule
others k = drop 2 (fields k)

-- ---- a name that is declared

name_is_new : (names : List Text) (text : Text) → name_fault names text ≡ None → place_of names text ≡ None
name_is_new names text h = by (is_name text) (place_of names text) h
  where
    by : (b : Bool) (o : Option ℕ) → (if b then option_map (λ place. fault.NameTwice) o else Some fault.BadName) ≡ None → o ≡ None
    by true None e = refl
    by true (Some p) e = cc
    by false o e = cc

name_is_formed : (names : List Text) (text : Text) → name_fault names text ≡ None → is_name text ≡ true
name_is_formed names text h = by (is_name text) h
  where
    by : (b : Bool) → (if b then option_map (λ place. fault.NameTwice) (place_of names text) else Some fault.BadName) ≡ None → b ≡ true
    by true e = refl
    by false e = cc

declared_fault : (names : NamesByKind) (k : NameKind) (rules : List FieldRule) (row : Row) → 2 ≤ length row → first_some (field_faults names 1 Nothing (Word ∷ Declares k ∷ rules) row) ≡ None → name_fault (names k) (text_at row 1) ≡ None
unfolding field_at
declared_fault names k rules [] l h = absurd (omega arith)
declared_fault names k rules (word ∷ []) l h = absurd (omega arith)
declared_fault names k rules (word ∷ text ∷ row) l h = (none_first 2 (name_fault (names k) text) (field_faults names 3 Nothing rules row) h).0

declared_new : (names : NamesByKind) (k : NameKind) (rules : List FieldRule) (row : Row) → 2 ≤ length row → first_some (field_faults names 1 Nothing (Word ∷ Declares k ∷ rules) row) ≡ None → place_of (names k) (text_at row 1) ≡ None
declared_new names k rules row l h = name_is_new (names k) (text_at row 1) (declared_fault names k rules row l h)

declared_formed : (names : NamesByKind) (k : NameKind) (rules : List FieldRule) (row : Row) → 2 ≤ length row → first_some (field_faults names 1 Nothing (Word ∷ Declares k ∷ rules) row) ≡ None → is_name (text_at row 1) ≡ true
declared_formed names k rules row l h = name_is_formed (names k) (text_at row 1) (declared_fault names k rules row l h)

few_names : (names : NamesByKind) (k : NameKind) → nat_le 256 (name_count names) ≡ false → length (names k) < 256
few_names names name.Environment h = let l = leb-false 256 (name_count names) h in omega arith
few_names names name.Material h = let l = leb-false 256 (name_count names) h in omega arith
few_names names name.Part h = let l = leb-false 256 (name_count names) h in omega arith
few_names names name.Psi h = let l = leb-false 256 (name_count names) h in omega arith
few_names names name.Chi h = let l = leb-false 256 (name_count names) h in omega arith

pub new_name : (names : NamesByKind) (d : Detail) (k : RecordKind) (row : Row) → IsSound names d k row → IsNewName names (declares k) (text_at row 1)
new_name names d kind.Environment row s = (declared_new names name.Environment (others kind.Environment) row (two names d kind.Environment row s) s.in_fields, few_names names name.Environment (neither_is (nat_le 4 (length d.environments)) (nat_le 256 (name_count names)) s.room))
new_name names d kind.Material row s = (declared_new names name.Material (others kind.Material) row (two names d kind.Material row s) s.in_fields, few_names names name.Material s.room)
new_name names d kind.Part row s = (declared_new names name.Part (others kind.Part) row (two names d kind.Part row s) s.in_fields, few_names names name.Part s.room)
new_name names d kind.Psi row s = (declared_new names name.Psi (others kind.Psi) row (two names d kind.Psi row s) s.in_fields, few_names names name.Psi s.room)
new_name names d kind.Chi row s = (declared_new names name.Chi (others kind.Chi) row (two names d kind.Chi row s) s.in_fields, few_names names name.Chi s.room)
new_name names d kind.Solid row s = tt
new_name names d kind.Air row s = tt
new_name names d kind.Layer row s = tt
new_name names d kind.Length row s = tt
new_name names d kind.Area row s = tt
new_name names d kind.Line row s = tt

-- a name that is declared has the form of a name
abbrev pub IsFormed : Option NameKind → Text → Type 0
IsFormed None text = Unit {0}
IsFormed (Some k) text = is_name text ≡ true

pub new_formed : (names : NamesByKind) (d : Detail) (k : RecordKind) (row : Row) → IsSound names d k row → IsFormed (declares k) (text_at row 1)
new_formed names d kind.Environment row s = declared_formed names name.Environment (others kind.Environment) row (two names d kind.Environment row s) s.in_fields
new_formed names d kind.Material row s = declared_formed names name.Material (others kind.Material) row (two names d kind.Material row s) s.in_fields
new_formed names d kind.Part row s = declared_formed names name.Part (others kind.Part) row (two names d kind.Part row s) s.in_fields
new_formed names d kind.Psi row s = declared_formed names name.Psi (others kind.Psi) row (two names d kind.Psi row s) s.in_fields
new_formed names d kind.Chi row s = declared_formed names name.Chi (others kind.Chi) row (two names d kind.Chi row s) s.in_fields
new_formed names d _ row s = tt

-- ---- the item to which a record belongs

-- the second field is the place of a name of this kind
abbrev pub IsOwned : NamesByKind → NameKind → List FieldValue → Type 0
IsOwned names k vs = (place : ℕ) × ((value_at vs 1 ≡ Place place) × (place < length (names k)))

owned : (names : NamesByKind) (k : NameKind) (rules : List FieldRule) (row : Row) → 2 ≤ length row → first_some (field_faults names 1 Nothing (Word ∷ BelongsTo k ∷ rules) row) ≡ None → IsOwned names k (values names (Word ∷ BelongsTo k ∷ rules) row)
owned names k rules [] l h = absurd (omega arith)
owned names k rules (word ∷ []) l h = absurd (omega arith)
owned names k rules (word ∷ text ∷ row) l h =
    let u = used (place_of (names k) text) (none_first 2 (use_fault (place_of (names k) text)) (field_faults names 3 (value names (BelongsTo k) text) rules row) h).0 in
    (u.0, (ap place_value u.1, place_within (bytes_eq text) (names k) u.0 u.1))

-- the kind of the items to which records of this kind belong
abbrev pub Owner : NamesByKind → RecordKind → List FieldValue → Type 0
Owner names kind.Layer vs = IsOwned names name.Part vs
Owner names kind.Length vs = IsOwned names name.Psi vs
Owner names kind.Area vs = IsOwned names name.Chi vs
Owner names kind.Line vs = IsOwned names name.Chi vs
Owner names _ vs = Unit {0}

pub owner : (names : NamesByKind) (d : Detail) (k : RecordKind) (row : Row) → IsSound names d k row → Owner names k (values names (fields k) row)
owner names d kind.Layer row s = owned names name.Part (others kind.Layer) row (two names d kind.Layer row s) s.in_fields
owner names d kind.Length row s = owned names name.Psi (others kind.Length) row (two names d kind.Length row s) s.in_fields
owner names d kind.Area row s = owned names name.Chi (others kind.Area) row (two names d kind.Area row s) s.in_fields
owner names d kind.Line row s = owned names name.Chi (others kind.Line) row (two names d kind.Line row s) s.in_fields
owner names d kind.Environment row s = tt
owner names d kind.Material row s = tt
owner names d kind.Solid row s = tt
owner names d kind.Air row s = tt
owner names d kind.Part row s = tt
owner names d kind.Psi row s = tt
owner names d kind.Chi row s = tt

-- ---- settled records

strange : (names : NamesByKind) (k : NameKind) (vs : List FieldValue) → IsOwned names k vs → (place : ℕ) → length (names k) ≤ place → is_place place (value_at vs 1) ≡ false
strange names k vs o place l = ap (is_place place) o.1.0 ∙ ne_eqb o.0 place (λ e. let w = o.1.1 in omega arith)

-- whether a record of this kind and these values is strange
abbrev Strange : RecordKind → ℕ → Option RecordKind → List FieldValue → Type 0
Strange k count o vs = (place : ℕ) → count ≤ place → (same_kind k o && is_place place (value_at vs 1)) ≡ false

strange_layer : (names : NamesByKind) (k : RecordKind) (vs : List FieldValue) → Owner names k vs → Strange kind.Layer (length (names name.Part)) (Some k) vs
strange_layer names kind.Layer vs o = strange names name.Part vs o
strange_layer names _ vs o = λ place l. refl

strange_length : (names : NamesByKind) (k : RecordKind) (vs : List FieldValue) → Owner names k vs → Strange kind.Length (length (names name.Psi)) (Some k) vs
strange_length names kind.Length vs o = strange names name.Psi vs o
strange_length names _ vs o = λ place l. refl

strange_area : (names : NamesByKind) (k : RecordKind) (vs : List FieldValue) → Owner names k vs → Strange kind.Area (length (names name.Chi)) (Some k) vs
strange_area names kind.Area vs o = strange names name.Chi vs o
strange_area names _ vs o = λ place l. refl

strange_line : (names : NamesByKind) (k : RecordKind) (vs : List FieldValue) → Owner names k vs → Strange kind.Line (length (names name.Chi)) (Some k) vs
strange_line names kind.Line vs o = strange names name.Chi vs o
strange_line names _ vs o = λ place l. refl

-- a record of a kind without a fault
pub settled_kind : (names : NamesByKind) (d : Detail) (k : RecordKind) (row : Row) → kind_of row ≡ Some k → IsSound names d k row → IsSettled names row
settled_kind names d k row e s = record {
  steady = λ more. subst (λ (o : Option RecordKind). values_as (longer names more) o row ≡ values_as names o row) (sym e) (values_longer names more 1 Nothing (fields k) row s.in_fields);
  layer = moved kind.Layer (length (names name.Part)) (strange_layer names k (values names (fields k) row) o);
  length_term = moved kind.Length (length (names name.Psi)) (strange_length names k (values names (fields k) row) o);
  area = moved kind.Area (length (names name.Chi)) (strange_area names k (values names (fields k) row) o);
  line = moved kind.Line (length (names name.Chi)) (strange_line names k (values names (fields k) row) o);
}
  where
    o : Owner names k (values names (fields k) row)
    o = owner names d k row s

    moved : (t : RecordKind) (count : ℕ) → Strange t count (Some k) (values_as names (Some k) row) → Strange t count (kind_of row) (values_as names (kind_of row) row)
    moved t count h = subst (λ (o : Option RecordKind). Strange t count o (values_as names o row)) (sym e) h

-- a record of no kind
pub settled_none : (names : NamesByKind) (row : Row) → kind_of row ≡ None → IsSettled names row
settled_none names row e = record {
  steady = λ more. subst (λ (o : Option RecordKind). values_as (longer names more) o row ≡ values_as names o row) (sym e) refl;
  layer = moved kind.Layer (length (names name.Part)) (λ place l. refl);
  length_term = moved kind.Length (length (names name.Psi)) (λ place l. refl);
  area = moved kind.Area (length (names name.Chi)) (λ place l. refl);
  line = moved kind.Line (length (names name.Chi)) (λ place l. refl);
}
  where
    moved : (t : RecordKind) (count : ℕ) → Strange t count None [] → Strange t count (kind_of row) (values_as names (kind_of row) row)
    moved t count h = subst (λ (o : Option RecordKind). Strange t count o (values_as names o row)) (sym e) h

-- ---- more names

longer_twice : (names more most : NamesByKind) → longer (longer names more) most ≡ longer names (longer more most)
longer_twice names more most = λ i k. append_assoc (names k) (more k) (most k) i

pub settled_longer : (names more : NamesByKind) (row : Row) → IsSettled names row → IsSettled (longer names more) row
settled_longer names more row s = record {
  steady = λ most. ap (λ (n : NamesByKind). values_as n (kind_of row) row) (longer_twice names more most) ∙ s.steady (longer more most) ∙ sym (s.steady more);
  layer = moved kind.Layer name.Part s.layer;
  length_term = moved kind.Length name.Psi s.length_term;
  area = moved kind.Area name.Chi s.area;
  line = moved kind.Line name.Chi s.line;
}
  where
    moved : (t : RecordKind) (k : NameKind) → IsStrange t (length (names k)) (entry names row) → IsStrange t (length (longer names more k)) (entry (longer names more) row)
    moved t k h place l = ap (λ (vs : List FieldValue). same_kind t (kind_of row) && is_place place (value_at vs 1)) (s.steady more) ∙ h place (let e = length-append (names k) (more k) in omega arith)

pub are_settled_longer : (names more : NamesByKind) (rows : List Row) → AreSettled names rows → AreSettled (longer names more) rows
are_settled_longer names more [] s = tt
are_settled_longer names more (row ∷ rows) s = (settled_longer names more row s.0, are_settled_longer names more rows s.1)

pub are_settled_push : (names : NamesByKind) (rows : List Row) (row : Row) → AreSettled names rows → IsSettled names row → AreSettled names (rows ++ row ∷ [])
are_settled_push names [] row s h = (h, tt)
are_settled_push names (r ∷ rows) row s h = (s.0, are_settled_push names rows row s.1 h)
