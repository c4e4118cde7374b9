-- What holds of the values of fields that have no fault.
use Rattle.std.proofs.Common.{◌≡◌, ℕ, zero, suc, ◌+◌, ◌<◌, ◌≤◌, ◌&&◌, Bool, true, false, List, [], ◌∷◌, length, map, drop, replicate, Option, Some, None, Result, Ok, Err, refl, sym, ap, ◌∙◌, subst, arith, if◌then◌else◌, nat_le, nat_lt, slice_index_or, unsigned_abs, ℤ, ◌≤ℤ◌, int_lt, All}
use Rattle.std.proofs.lemmas.Bool.{leb-true, ltb-true}
use Rattle.std.proofs.lemmas.Int.{ints}
use Rattle.std.proofs.lemmas.List.Elements.{All-cons, All-nil}
use Rattle.std.specs.Str.{bytes_eq}
use Rattle.tb_numbers.specs.Reading.{decimal_reading, in_range, in_size, signed_reading}
use Rattle.tb_numbers.specs.declared.parse.NumberFault.TheVariants as number_fault
use Rattle.tb_detail.specs.declared.quantity.Quantity.{Quantity}
use Rattle.tb_detail.specs.Names.{Text}
use Rattle.tb_detail.specs.Quantities.{IsInRange, least, most}
use Rattle.tb_reading.specs.declared.fault.DetailKind.{DetailKind}
use Rattle.tb_reading.specs.declared.fault.DetailKind.TheVariants as fault
use Rattle.tb_reading.specs.declared.kinds.NameKind.{NameKind}
use Rattle.tb_reading.specs.declared.kinds.FieldRule.{FieldRule}
use Rattle.tb_reading.specs.declared.kinds.FieldRule.TheVariants.{Word, Declares, BelongsTo, Uses, UsesOther, Reads, ReadsAbove, ReadsPsi, ReadsPsiFrom}
use Rattle.tb_reading.specs.declared.values.FieldValue.{FieldValue}
use Rattle.tb_reading.specs.declared.values.FieldValue.TheVariants.{Place}
use Rattle.tb_reading.specs.Kinds.{places}
use Rattle.tb_reading.specs.Names.{NamesByKind, place_of}
use Rattle.tb_reading.specs.Records.{Row, above_fault, field_fault, field_faults, first_some, from_fault, is_place, number_fault_in, number_in, number_reading, number_value, of_number, pair_fault, place_in, place_value, psi_reading, psi_value, signed_in, value, value_at, values}
use Rattle.tb_reading.proofs.NamePlaces.{place_within}
use Rattle.tb_reading.proofs.Settled.{none_first, used}

-- ---- one value

-- the place of a name of this kind
abbrev pub IsPlaceOf : NamesByKind → NameKind → FieldValue → Type 0
IsPlaceOf names k v = (place : ℕ) × ((v ≡ Place place) × (place < length (names k)))

-- a value is as its rule asks, behind the value of the field before
abbrev pub Obeys : NamesByKind → FieldRule → FieldValue → FieldValue → Type 0
Obeys names Word before v = Unit {0}
Obeys names (Declares k) before v = Unit {0}
Obeys names (BelongsTo k) before v = IsPlaceOf names k v
Obeys names (Uses k) before v = IsPlaceOf names k v
Obeys names (UsesOther k) before v = IsPlaceOf names k v × (is_place (place_in v) before ≡ false)
Obeys names (Reads q) before v = IsInRange q (number_in v)
Obeys names (ReadsAbove q) before v = IsInRange q (number_in v) × (number_in before < number_in v)
Obeys names ReadsPsi before v = unsigned_abs (signed_in v) ≤ 1000000000
Obeys names ReadsPsiFrom before v = (unsigned_abs (signed_in v) ≤ 1000000000) × (signed_in before ≤ℤ signed_in v)

paired : (before : FieldValue) (place : Option ℕ) → pair_fault before place ≡ None → (i : ℕ) × ((place ≡ Some i) × (is_place i before ≡ false))
paired before None h = cc
paired before (Some i) h = (i, (refl, by (is_place i before) h))
  where
    by : (b : Bool) → (if b then Some fault.SamePair else None) ≡ None → b ≡ false
    by true h = cc
    by false h = refl

range_of : (low high : ℕ) (o : Option ℕ) (n : ℕ) → of_number (in_range low high o) ≡ Ok n → (low ≤ n) × (n ≤ high)
range_of low high None n h = cc
range_of low high (Some m) n h = by (nat_le low m) (nat_le m high) refl refl h
  where
    by : (a b : Bool) → nat_le low m ≡ a → nat_le m high ≡ b → of_number (if a && b then Ok m else Err number_fault.OutOfRange) ≡ Ok n → (low ≤ n) × (n ≤ high)
    by true true e f g = let same : m ≡ n = cc in let l = leb-true low m e in let k = leb-true m high f in (omega arith, omega arith)
    by true false e f g = cc
    by false b e f g = cc

size_of : (high : ℕ) (o : Option ℤ) (z : ℤ) → of_number (in_size high o) ≡ Ok z → unsigned_abs z ≤ high
size_of high None z h = cc
size_of high (Some y) z h = by (nat_le (unsigned_abs y) high) refl h
  where
    by : (b : Bool) → nat_le (unsigned_abs y) high ≡ b → of_number (if b then Ok y else Err number_fault.OutOfRange) ≡ Ok z → unsigned_abs z ≤ high
    by true e g = let same : y ≡ z = cc in subst (λ (x : ℤ). unsigned_abs x ≤ high) same (leb-true (unsigned_abs y) high e)
    by false e g = cc

number_in_range : (q : Quantity) (text : Text) (n : ℕ) → number_reading q text ≡ Ok n → IsInRange q n
unfolding number_reading
number_in_range q text n h = let r = range_of (least q) (most q) (decimal_reading (places q) text) n h in record { low = r.0; high = r.1 }

psi_in_size : (text : Text) (z : ℤ) → psi_reading text ≡ Ok z → unsigned_abs z ≤ 1000000000
unfolding psi_reading
psi_in_size text z h = size_of 1000000000 (signed_reading 6 text) z h

module _ (P : ℕ → Type 0) where
  reads : (r : Result ℕ DetailKind) → ((n : ℕ) → r ≡ Ok n → P n) → number_fault_in r ≡ None → P (number_in (number_value r))
  reads (Ok n) p h = p n refl
  reads (Err f) p h = cc

  reads_above : (before : FieldValue) (r : Result ℕ DetailKind) → ((n : ℕ) → r ≡ Ok n → P n) → above_fault before r ≡ None → P (number_in (number_value r)) × (number_in before < number_in (number_value r))
  reads_above before (Ok n) p h = (p n refl, by (nat_lt (number_in before) n) refl h)
    where
      by : (b : Bool) → nat_lt (number_in before) n ≡ b → (if b then None else Some fault.Reversed) ≡ None → number_in before < n
      by true e h = ltb-true (number_in before) n e
      by false e h = cc
  reads_above before (Err f) p h = cc

module _ (P : ℤ → Type 0) where
  reads_psi : (r : Result ℤ DetailKind) → ((z : ℤ) → r ≡ Ok z → P z) → number_fault_in r ≡ None → P (signed_in (psi_value r))
  reads_psi (Ok z) p h = p z refl
  reads_psi (Err f) p h = cc

  reads_psi_from : (before : FieldValue) (r : Result ℤ DetailKind) → ((z : ℤ) → r ≡ Ok z → P z) → from_fault before r ≡ None → P (signed_in (psi_value r)) × (signed_in before ≤ℤ signed_in (psi_value r))
  reads_psi_from before (Ok z) p h = (p z refl, by (int_lt z (signed_in before)) refl h)
    where
      not_below : (x y : ℤ) → int_lt y x ≡ false → x ≤ℤ y
      not_below x y e = grind (arith, ints)

      by : (b : Bool) → int_lt z (signed_in before) ≡ b → (if b then Some fault.Reversed else None) ≡ None → signed_in before ≤ℤ z
      by true e h = cc
      by false e h = not_below (signed_in before) z e
  reads_psi_from before (Err f) p h = cc

obeys : (names : NamesByKind) (rule : FieldRule) (before : FieldValue) (text : Text) → field_fault names rule before text ≡ None → Obeys names rule before (value names rule text)
obeys names Word before text h = tt
obeys names (Declares k) before text h = tt
obeys names (BelongsTo k) before text h =
    let u = used (place_of (names k) text) h in
    (u.0, (ap place_value u.1, place_within (bytes_eq text) (names k) u.0 u.1))
obeys names (Uses k) before text h =
    let u = used (place_of (names k) text) h in
    (u.0, (ap place_value u.1, place_within (bytes_eq text) (names k) u.0 u.1))
obeys names (UsesOther k) before text h =
    let u = paired before (place_of (names k) text) h in
    ((u.0, (ap place_value u.1.0, place_within (bytes_eq text) (names k) u.0 u.1.0)), ap (λ (o : Option ℕ). is_place (place_in (place_value o)) before) u.1.0 ∙ u.1.1)
obeys names (Reads q) before text h = reads (IsInRange q) (number_reading q text) (number_in_range q text) h
obeys names (ReadsAbove q) before text h = reads_above (IsInRange q) before (number_reading q text) (number_in_range q text) h
obeys names ReadsPsi before text h = reads_psi (λ z. unsigned_abs z ≤ 1000000000) (psi_reading text) (psi_in_size text) h
obeys names ReadsPsiFrom before text h = reads_psi_from (λ z. unsigned_abs z ≤ 1000000000) before (psi_reading text) (psi_in_size text) h

-- ---- the values of a record

abbrev pub AllObey : NamesByKind → FieldValue → List FieldRule → List FieldValue → Type 0
AllObey names before [] vs = Unit {0}
AllObey names before (rule ∷ rules) [] = Unit {0}
AllObey names before (rule ∷ rules) (v ∷ vs) = Obeys names rule before v × AllObey names v rules vs

pub all_obey : (names : NamesByKind) (number : ℕ) (before : FieldValue) (rules : List FieldRule) (row : Row) → first_some (field_faults names number before rules row) ≡ None → AllObey names before rules (values names rules row)
all_obey names number before [] row h = tt
all_obey names number before (rule ∷ rules) [] h = tt
all_obey names number before (rule ∷ rules) (text ∷ row) h =
    let n = none_first number (field_fault names rule before text) (field_faults names (number + 1) (value names rule text) rules row) h in
    (obeys names rule before text n.0, all_obey names (number + 1) (value names rule text) rules row n.1)

pub length_values : (names : NamesByKind) (rules : List FieldRule) (row : Row) → length row ≤ length rules → length (values names rules row) ≡ length row
length_values names [] [] h = refl
length_values names [] (text ∷ row) h = absurd (omega arith)
length_values names (rule ∷ rules) [] h = refl
length_values names (rule ∷ rules) (text ∷ row) h = ap suc (length_values names rules row (omega arith))

-- a value behind the first obeys its rule
pub obeys_next : (names : NamesByKind) (before : FieldValue) (rules : List FieldRule) (vs : List FieldValue) (i : ℕ) → AllObey names before rules vs → suc i < length rules → suc i < length vs
    → Obeys names (slice_index_or rules (suc i) Word) (value_at vs i) (value_at vs (suc i))
obeys_next names before [] vs i a l m = absurd (omega arith)
obeys_next names before (rule ∷ rules) [] i a l m = absurd (omega arith)
obeys_next names before (rule ∷ []) (v ∷ vs) i a l m = absurd (omega arith)
obeys_next names before (rule ∷ next ∷ rules) (v ∷ []) i a l m = absurd (omega arith)
obeys_next names before (rule ∷ next ∷ rules) (v ∷ w ∷ vs) zero a l m = a.1.0
obeys_next names before (rule ∷ next ∷ rules) (v ∷ w ∷ vs) (suc i) a l m = obeys_next names v (next ∷ rules) (w ∷ vs) i a.1 (omega arith) (omega arith)

pub obey_from : (names : NamesByKind) (before : FieldValue) (n : ℕ) (rules : List FieldRule) (vs : List FieldValue) → AllObey names before rules vs → (b : FieldValue) × AllObey names b (drop n rules) (drop n vs)
obey_from names before zero rules vs a = (before, a)
obey_from names before (suc n) [] vs a = (before, tt)
obey_from names before (suc n) (rule ∷ rules) [] a = (before, none (drop n rules))
  where
    none : (rules : List FieldRule) → AllObey names before rules []
    none [] = tt
    none (rule ∷ rules) = tt
obey_from names before (suc n) (rule ∷ rules) (v ∷ vs) a = obey_from names v n rules vs a.1

pub reads_all : (names : NamesByKind) (q : Quantity) (n : ℕ) (before : FieldValue) (vs : List FieldValue) → AllObey names before (replicate n (Reads q)) vs → length vs ≤ n → All (IsInRange q) (map number_in vs)
reads_all names q n before [] a l = All-nil (IsInRange q)
reads_all names q zero before (v ∷ vs) a l = absurd (omega arith)
reads_all names q (suc n) before (v ∷ vs) a l = All-cons (IsInRange q) (number_in v) (map number_in vs) a.0 (reads_all names q n v vs a.1 (omega arith))

pub place_below : (names : NamesByKind) (k : NameKind) (v : FieldValue) → IsPlaceOf names k v → place_in v < length (names k)
place_below names k v p = subst (λ (place : ℕ). place < length (names k)) (sym (ap place_in p.1.0)) p.1.1

pub uses_all : (names : NamesByKind) (k : NameKind) (n : ℕ) (before : FieldValue) (vs : List FieldValue) → AllObey names before (replicate n (Uses k)) vs → length vs ≤ n → All (λ place. place < length (names k)) (map place_in vs)
uses_all names k n before [] a l = All-nil (λ place. place < length (names k))
uses_all names k zero before (v ∷ vs) a l = absurd (omega arith)
uses_all names k (suc n) before (v ∷ vs) a l = All-cons (λ place. place < length (names k)) (place_in v) (map place_in vs) (place_below names k v a.0) (uses_all names k n v vs a.1 (omega arith))
