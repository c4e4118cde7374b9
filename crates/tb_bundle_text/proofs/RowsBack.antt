-- Rows of values read back.
use Rattle.std.proofs.Common.{◌≡◌, ◌∙◌, ap, refl, ℕ, zero, suc, ℤ, pos, negsuc, ◌+◌, ◌*◌, ◌≤◌, true, false, List, [], ◌∷◌, ◌++◌, length, map, take, drop, replicate, All, None, Result, Ok, arith, eq-eqb}
use Rattle.std.proofs.lemmas.Bool.{le-leb}
use Rattle.std.proofs.lemmas.Int.{ints}
use Rattle.std.specs.Int.{is_negative}
use Rattle.std.proofs.lemmas.List.{length-map, length-take-le, length-drop, take-append-drop, drop-drop}
use Rattle.std.proofs.lemmas.List.Elements.{All-drop, All-head, All-tail, All-take}
use Rattle.std.proofs.lemmas.Slice.Eq.{bytes_eq-Decides}
use Rattle.std.specs.List.{repeat}
use Rattle.std.specs.Str.{bytes_eq}
use Rattle.csv.specs.Records.{field_at}
use Rattle.tb_detail.specs.Names.{Text}
use Rattle.tb_numbers.proofs.ShortTexts.{decimal_reads, signed_reads_within}
use Rattle.tb_numbers.specs.Texts.{signed_decimal_text}
use Rattle.tb_numbers.specs.declared.parse.NumberFault.{NumberFault}
use Rattle.tb_reading.specs.Records.{Row, first_some}
use Rattle.tb_case_records.specs.declared.rows.RowKind.{RowKind}
use Rattle.tb_case_records.specs.Limits.{IsFaceValue, IsNodeValue}
use Rattle.tb_case_records.specs.Rows.{face_reading, fault_in, number_faults, node_reading, numbers, read_of, reading_of, row_fault, word_of}
use Rattle.tb_case_records.specs.Table.{Axis, Ends, Exactly, Expected, Judged, Never, Values}
use Rattle.tb_bundle_text.specs.Canonical.{value_count, value_row, value_rows, value_text, values_in}
use Rattle.tb_bundle_text.proofs.Meeting.{Meets, numbers_of_rows}

-- ---- texts of values

pub face_back : (z : ℤ) → IsFaceValue z → face_reading (value_text z) ≡ Ok z
unfolding face_reading
face_back z h = signed_reads_within 0 1000000000000 z (omega arith) h

not_negative : (n : ℕ) → is_negative (pos n) ≡ false
not_negative n = grind (arith, ints)

pub node_back : (z : ℤ) → IsNodeValue z → node_reading (value_text z) ≡ Ok z
unfolding node_reading signed_decimal_text
node_back (pos n) h =
    let small : n ≤ 100000000 = h.1 in
    rw (not_negative n, decimal_reads 0 n (omega (arith, small)), le-leb n 100000000 small) refl
node_back (negsuc n) h = absurd (omega (arith, ints, h.0))

pub same : (text : Text) → bytes_eq text text ≡ true
same text = (bytes_eq-Decides text text).1 refl

-- ---- awaited rows

-- rows alone, whose values are read so
abbrev pub IsRow : (Text → Result ℤ NumberFault) → Expected → Type 0
IsRow reading (Values kind count) = reading_of kind ≡ reading
IsRow reading (Exactly fields) = ⊥
IsRow reading (Axis case axis bases cells) = ⊥
IsRow reading Ends = ⊥
IsRow reading Judged = ⊥
IsRow reading Never = ⊥

abbrev pub AreRows : (Text → Result ℤ NumberFault) → List Expected → Type 0
AreRows reading es = All (IsRow reading) es

-- ---- how many values there are

pub values_append : (es fs : List Expected) → values_in (es ++ fs) ≡ values_in es + values_in fs
values_append [] fs = omega arith
values_append (e ∷ es) fs = let h = values_append es fs in omega (arith, h)

pub values_replicate : (n : ℕ) (e : Expected) → values_in (replicate n e) ≡ n * value_count e
values_replicate zero e = omega arith
values_replicate (suc n) e = let h = values_replicate n e in omega (arith, h)

pub values_repeat : (n : ℕ) (es : List Expected) → values_in (repeat n es) ≡ n * values_in es
values_repeat zero es = omega arith
values_repeat (suc n) es = let h = values_repeat n es in omega (arith, h, values_append es (repeat n es))

-- the rows of two lists
pub rows_append : (es fs : List Expected) (values : List ℤ) → value_rows (es ++ fs) values ≡ value_rows es values ++ value_rows fs (drop (values_in es) values)
rows_append [] fs values = refl
rows_append (e ∷ es) fs values =
    ap (λ (rows : List Row). value_row e (take (value_count e) values) ∷ rows)
    (rows_append es fs (drop (value_count e) values)
    ∙ ap (λ (rest : List ℤ). value_rows es (drop (value_count e) values) ++ value_rows fs rest) (drop-drop (values_in es) (value_count e) values))

-- ---- they read back

module _ (reading : Text → Result ℤ NumberFault) (P : ℤ → Type 0) (back : (z : ℤ) → P z → reading (value_text z) ≡ Ok z) where
  numbers_back : (xs : List ℤ) → All P xs → numbers reading (map value_text xs) ≡ xs
  numbers_back [] h = refl
  numbers_back (x ∷ xs) h =
      ap (λ (r : Result ℤ NumberFault). read_of r ++ numbers reading (map value_text xs)) (back x (All-head P x xs h))
      ∙ ap (λ (l : List ℤ). x ∷ l) (numbers_back xs (All-tail P x xs h))

  faults_back : (kind : RowKind) → reading_of kind ≡ reading → (field : ℕ) (xs : List ℤ) → All P xs → first_some (number_faults kind field (map value_text xs)) ≡ None
  faults_back kind e field [] h = refl
  faults_back kind e field (x ∷ xs) h =
      ap (λ (r : Text → Result ℤ NumberFault). first_some (fault_in field (r (value_text x)) ∷ number_faults kind (field + 1) (map value_text xs))) e
      ∙ ap (λ (r : Result ℤ NumberFault). first_some (fault_in field r ∷ number_faults kind (field + 1) (map value_text xs))) (back x (All-head P x xs h))
      ∙ faults_back kind e (field + 1) xs (All-tail P x xs h)

  row_back : (kind : RowKind) (count : ℕ) (xs : List ℤ) → reading_of kind ≡ reading → length xs ≡ count → All P xs
      → row_fault kind count (word_of kind ∷ map value_text xs) ≡ None
  unfolding field_at
  row_back kind count xs e many h = rw (same (word_of kind), eq-eqb (suc (length (map value_text xs))) (count + 1) as_many) (faults_back kind e 2 xs h)
    where
      as_many : suc (length (map value_text xs)) ≡ count + 1
      as_many = omega (arith, length-map xs value_text, many)

  -- all of them have no fault
  pub rows_meet : (es : List Expected) (xs : List ℤ) → AreRows reading es → length xs ≡ values_in es → All P xs → Meets es (value_rows es xs)
  rows_meet [] xs r many h = tt
  rows_meet (Exactly fields ∷ es) xs r many h = absurd (All-head (IsRow reading) (Exactly fields) es r)
  rows_meet (Axis case axis bases cells ∷ es) xs r many h = absurd (All-head (IsRow reading) (Axis case axis bases cells) es r)
  rows_meet (Ends ∷ es) xs r many h = absurd (All-head (IsRow reading) Ends es r)
  rows_meet (Judged ∷ es) xs r many h = absurd (All-head (IsRow reading) Judged es r)
  rows_meet (Never ∷ es) xs r many h = absurd (All-head (IsRow reading) Never es r)
  rows_meet (Values kind count ∷ es) xs r many h = (
    row_back kind count (take count xs) (All-head (IsRow reading) (Values kind count) es r) (length-take-le count xs (omega (arith, many))) (All-take P count xs h),
    rows_meet es (drop count xs) (All-tail (IsRow reading) (Values kind count) es r) (omega (arith, many, length-drop count xs)) (All-drop P count xs h),
  )

  -- and their numbers are the values
  pub rows_read : (es : List Expected) (xs : List ℤ) → AreRows reading es → length xs ≡ values_in es → All P xs → numbers_of_rows reading (value_rows es xs) ≡ xs
  rows_read [] [] r many h = refl
  rows_read [] (x ∷ xs) r many h = absurd (omega (arith, many))
  rows_read (Exactly fields ∷ es) xs r many h = absurd (All-head (IsRow reading) (Exactly fields) es r)
  rows_read (Axis case axis bases cells ∷ es) xs r many h = absurd (All-head (IsRow reading) (Axis case axis bases cells) es r)
  rows_read (Ends ∷ es) xs r many h = absurd (All-head (IsRow reading) Ends es r)
  rows_read (Judged ∷ es) xs r many h = absurd (All-head (IsRow reading) Judged es r)
  rows_read (Never ∷ es) xs r many h = absurd (All-head (IsRow reading) Never es r)
  rows_read (Values kind count ∷ es) xs r many h =
      ap (λ (l : List ℤ). l ++ numbers_of_rows reading (value_rows es (drop count xs))) (numbers_back (take count xs) (All-take P count xs h))
      ∙ ap (λ (l : List ℤ). take count xs ++ l) (rows_read es (drop count xs) (All-tail (IsRow reading) (Values kind count) es r) (omega (arith, many, length-drop count xs)) (All-drop P count xs h))
      ∙ take-append-drop count xs
