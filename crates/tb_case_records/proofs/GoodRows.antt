-- Rows without a fault: so many values, each within its limits.
use Rattle.std.proofs.Common.{◌≡◌, ◌≢◌, ◌∙◌, ap, refl, sym, subst, ℕ, zero, suc, ℤ, pos, neg_ℤ, unsigned_abs, ◌+◌, ◌*◌, ◌<◌, ◌≤◌, ◌≤ℤ◌, ◌^◌, ◌==◌, ◌&&◌, Bool, true, false, not, List, [], ◌∷◌, ◌++◌, length, drop, replicate, take, nat_le, Option, Some, None, option_map, Result, Ok, Err, arith, length-append, length-drop, All, if◌then◌else◌}
use Rattle.std.proofs.lemmas.Bool.{eqb-true, leb-true}
use Rattle.std.proofs.lemmas.List.Elements.{All-append, All-cons, All-nil}
use Rattle.std.proofs.lemmas.List.{append-nil, length-replicate}
use Rattle.std.proofs.lemmas.Int.{ints}
use Rattle.std.specs.List.{repeat}
use Rattle.std.specs.Option.{option_or}
use Rattle.std.specs.Str.{bytes_eq}
use Rattle.tb_detail.specs.Names.{Text}
use Rattle.tb_numbers.specs.Reading.{decimal_reading, in_size, signed_reading}
use Rattle.tb_numbers.specs.declared.parse.NumberFault.{NumberFault}
use Rattle.tb_numbers.specs.declared.parse.NumberFault.TheVariants as number
use Rattle.tb_reading.specs.Reading.{Numbered}
use Rattle.tb_reading.specs.Records.{Row, first_some, text_at}
use Rattle.tb_case_records.specs.declared.fault.BundleFault.{BundleFault}
use Rattle.tb_case_records.specs.declared.fault.BundleFault.TheVariants as bundle
use Rattle.tb_case_records.specs.declared.fault.RecordFault.{RecordFault}
use Rattle.tb_case_records.specs.declared.fault.RecordFault.TheVariants as fault
use Rattle.tb_case_records.specs.declared.rows.RowKind.{RowKind}
use Rattle.tb_case_records.specs.declared.rows.RowKind.TheVariants.{Nodes, Faces}
use Rattle.tb_places.specs.declared.AxisName.{AxisName}
use Rattle.tb_places.specs.declared.AxisName.TheVariants.{X, Y, Z}
use Rattle.tb_case_records.specs.Ahead.{row_numbers}
use Rattle.tb_case_records.specs.Faults.{placed}
use Rattle.tb_case_records.specs.Limits.{AreValuesOf, IsFaceValue, IsNodeValue, IsValue}
use Rattle.tb_case_records.specs.Rows.{face_reading, fault_in, node_reading, number_faults, numbers, read_of, reading_of, row_fault, shape_if, word_of}
use Rattle.tb_case_records.specs.Table.{Expected, Values, across_z, face_rows, faults, first_fault, layer_rows, line_of_fault, node_rows}
use Rattle.tb_case_records.proofs.Rising.{impossible, none_both}
use Rattle.tb_case_records.proofs.Taking.{fault_stays, first_of_both, numbers_add}

-- ---- one value

in_size_told : (most : ℕ) (y z : ℤ) (b : Bool) → nat_le (unsigned_abs y) most ≡ b → (if b then Ok y else Err number.OutOfRange) ≡ Ok z → (Some y ≡ Some z) × (unsigned_abs z ≤ most)
in_size_told most y z true e h = let same : y ≡ z = cc in (ap Some same, subst (λ (x : ℤ). unsigned_abs x ≤ most) same (leb-true (unsigned_abs y) most e))
in_size_told most y z false e h = cc

in_size_bound : (most : ℕ) (o : Option ℤ) (z : ℤ) → in_size most o ≡ Ok z → (o ≡ Some z) × (unsigned_abs z ≤ most)
in_size_bound most None z h = cc
in_size_bound most (Some y) z h = in_size_told most y z (nat_le (unsigned_abs y) most) refl h

not_negative : (o : Option ℕ) (z : ℤ) → option_map pos o ≡ Some z → pos 0 ≤ℤ z
not_negative None z h = cc
not_negative (Some n) z h = let same : pos n ≡ z = cc in subst (λ (x : ℤ). pos 0 ≤ℤ x) same (omega (arith, ints))

value_good : (kind : RowKind) (text : Text) (z : ℤ) → reading_of kind text ≡ Ok z → IsValue kind z
unfolding node_reading face_reading
value_good Nodes text z h =
    let both = in_size_bound 100000000 (option_map pos (decimal_reading 0 text)) z h in
    (not_negative (decimal_reading 0 text) z both.0, both.1)
value_good (Faces axis) text z h = (in_size_bound 1000000000000 (signed_reading 0 text) z h).1

-- ---- one row

none : (count : ℕ) → 0 ≡ 0 * count
none count = omega arith

one_more : (rows count : ℕ) → count + rows * count ≡ suc rows * count
one_more rows count = omega arith

no_values : (P : ℤ → Type 0) → AreValuesOf P 0 []
no_values P = record { one_each = refl; each = All-nil P }

both_good : (P : ℤ → Type 0) (m n : ℕ) (xs ys : List ℤ) → AreValuesOf P m xs → AreValuesOf P n ys → AreValuesOf P (m + n) (xs ++ ys)
both_good P m n xs ys a b = record {
  one_each = let l = length-append xs ys in let i = a.one_each in let j = b.one_each in omega arith;
  each = All-append P xs ys a.each b.each;
}

module _ (kind : RowKind) where
  abbrev Good : ℕ → List ℤ → Type 0
  Good = AreValuesOf (IsValue kind)

  numbers_good : (field : ℕ) (texts : List Text) → first_some (number_faults kind field texts) ≡ None → Good (length texts) (numbers (reading_of kind) texts)
  numbers_good field [] h = no_values (IsValue kind)
  numbers_good field (text ∷ texts) h = by (reading_of kind text) refl (numbers_good (field + 1) texts) h
    where
      by : (r : Result ℤ NumberFault) → reading_of kind text ≡ r → (first_some (number_faults kind (field + 1) texts) ≡ None → Good (length texts) (numbers (reading_of kind) texts))
          → first_some (fault_in field r ∷ number_faults kind (field + 1) texts) ≡ None → Good (length (text ∷ texts)) (read_of r ++ numbers (reading_of kind) texts)
      by (Err number.BadNumber) e more h = impossible (fault.BadNumber field) h
      by (Err number.OutOfRange) e more h = impossible (fault.OutOfRange field) h
      by (Ok z) e more h =
          let rest = more h in
          record {
            one_each = ap suc rest.one_each;
            each = All-cons (IsValue kind) z (numbers (reading_of kind) texts) (value_good kind text z e) rest.each;
          }

  right_shape : (b : Bool) → shape_if (not b) ≡ None → b ≡ true
  right_shape true h = refl
  right_shape false h = impossible fault.Shape h

  both_true : (a b : Bool) → (a && b) ≡ true → (a ≡ true) × (b ≡ true)
  both_true true b h = (refl, h)
  both_true false b h = cc

  row_good : (count : ℕ) (row : Row) → row_fault kind count row ≡ None → Good count (numbers (reading_of kind) (drop 1 row))
  row_good count row h =
      let both : (shape_if (not (bytes_eq (text_at row 0) (word_of kind) && length row == count + 1)) ≡ None) × (first_some (number_faults kind 2 (drop 1 row)) ≡ None) =
      none_both (shape_if (not (bytes_eq (text_at row 0) (word_of kind) && length row == count + 1))) (first_some (number_faults kind 2 (drop 1 row))) h in
      let size : length row ≡ count + 1 =
      eqb-true (length row) (count + 1) (both_true (bytes_eq (text_at row 0) (word_of kind)) (length row == count + 1) (right_shape _ both.0)).1 in
      let l = length-drop 1 row in
      let as_many : length (drop 1 row) ≡ count = omega arith in
      subst (λ (n : ℕ). Good n (numbers (reading_of kind) (drop 1 row))) as_many (numbers_good 2 (drop 1 row) both.1)

  -- ---- rows

  no_record_fault : (n : ℕ) (o : Option RecordFault) (rest : List (Option BundleFault)) → first_some (line_of_fault n o ∷ rest) ≡ None → (o ≡ None) × (first_some rest ≡ None)
  no_record_fault n None rest h = (refl, h)
  no_record_fault n (Some f) rest h = impossible (placed n f) h

  pub rows_good : (count rows : ℕ) (given : List Numbered) → first_fault (replicate rows (Values kind count)) given ≡ None
      → Good (rows * count) (row_numbers (reading_of kind) rows given)
  rows_good count zero [] h = subst (λ (n : ℕ). Good n []) (none count) (no_values (IsValue kind))
  rows_good count zero (r ∷ given) h = subst (λ (n : ℕ). Good n []) (none count) (no_values (IsValue kind))
  rows_good count (suc rows) [] h = impossible bundle.NoEnd h
  rows_good count (suc rows) (r ∷ given) h =
      let both : (row_fault kind count r.1 ≡ None) × (first_fault (replicate rows (Values kind count)) given ≡ None) =
      no_record_fault r.0 (row_fault kind count r.1) (faults (replicate rows (Values kind count)) given) h in
      subst (λ (n : ℕ). Good n (row_numbers (reading_of kind) (suc rows) (r ∷ given))) (one_more rows count)
      (both_good (IsValue kind) count (rows * count) (numbers (reading_of kind) (drop 1 r.1)) (row_numbers (reading_of kind) rows given)
      (row_good count r.1 both.0) (rows_good count rows given both.1))

-- ---- awaited records one behind the other

pub good_both : (es fs : List Expected) (given : List Numbered) → first_fault (es ++ fs) given ≡ None
    → (first_fault es given ≡ None) × (first_fault fs (drop (length es) given) ≡ None)
good_both es fs given h = by (first_fault es given) refl
  where
    by : (o : Option BundleFault) → first_fault es given ≡ o → (first_fault es given ≡ None) × (first_fault fs (drop (length es) given) ≡ None)
    by None e = (e, sym (first_of_both es fs given e) ∙ h)
    by (Some f) e = cc (sym (fault_stays es fs given f e) ∙ h)

-- records that give so many values of faces
abbrev GivesFaces : List Expected → ℕ → Type 0
GivesFaces es n = (given : List Numbered) → first_fault es given ≡ None → AreValuesOf IsFaceValue n (row_numbers face_reading (length es) given)

gives_both : (es fs : List Expected) (m n : ℕ) → GivesFaces es m → GivesFaces fs n → GivesFaces (es ++ fs) (m + n)
gives_both es fs m n a b given h =
    let both = good_both es fs given h in
    subst (AreValuesOf IsFaceValue (m + n)) (sym (ap (λ (k : ℕ). row_numbers face_reading k given) (length-append es fs) ∙ numbers_add face_reading (length es) (length fs) given))
    (both_good IsFaceValue m n (row_numbers face_reading (length es) given) (row_numbers face_reading (length fs) (drop (length es) given)) (a given both.0) (b (drop (length es) given) both.1))

gives_rows : (axis : AxisName) (count rows : ℕ) → GivesFaces (replicate rows (Values (Faces axis) count)) (rows * count)
gives_rows axis count rows given h =
    subst (λ (k : ℕ). AreValuesOf IsFaceValue (rows * count) (row_numbers face_reading k given)) (sym (length-replicate rows (Values (Faces axis) count)))
    (rows_good (Faces axis) count rows given h)

gives_layers : (es : List Expected) (n layers : ℕ) → GivesFaces es n → GivesFaces (repeat layers es) (layers * n)
gives_layers es n zero a = λ given h. no_layer given
  where
    no_layer : (given : List Numbered) → AreValuesOf IsFaceValue (0 * n) (row_numbers face_reading 0 given)
    no_layer [] = subst (λ (k : ℕ). AreValuesOf IsFaceValue k []) (none n) (no_values IsFaceValue)
    no_layer (r ∷ given) = subst (λ (k : ℕ). AreValuesOf IsFaceValue k []) (none n) (no_values IsFaceValue)
gives_layers es n (suc layers) a = λ given h.
    subst (λ (k : ℕ). AreValuesOf IsFaceValue k (row_numbers face_reading (length (repeat (suc layers) es)) given)) (one_more layers n)
    (gives_both es (repeat layers es) n (layers * n) a (gives_layers es n layers a) given h)

abbrev layer_faces : ℕ → ℕ → ℕ
layer_faces x y = y * x + (y * (x + 1) + (y + 1) * x)

layer_gives : (x y : ℕ) → GivesFaces (layer_rows x y) (layer_faces x y)
layer_gives x y =
    gives_both (across_z x y) (replicate y (Values (Faces X) (x + 1)) ++ replicate (y + 1) (Values (Faces Y) x)) (y * x) (y * (x + 1) + (y + 1) * x) (gives_rows Z x y)
    (gives_both (replicate y (Values (Faces X) (x + 1))) (replicate (y + 1) (Values (Faces Y) x)) (y * (x + 1)) ((y + 1) * x) (gives_rows X (x + 1) y) (gives_rows Y x (y + 1)))

pub faces_good : (x y z : ℕ) (given : List Numbered) → first_fault (face_rows x y z) given ≡ None
    → AreValuesOf IsFaceValue (z * layer_faces x y + y * x) (row_numbers face_reading (length (face_rows x y z)) given)
faces_good x y z =
    gives_both (repeat z (layer_rows x y)) (across_z x y) (z * layer_faces x y) (y * x) (gives_layers (layer_rows x y) (layer_faces x y) z (layer_gives x y)) (gives_rows Z x y)

pub nodes_good : (x y z : ℕ) (given : List Numbered) → first_fault (node_rows x y z) given ≡ None
    → AreValuesOf IsNodeValue ((y + 1) * (z + 1) * (x + 1)) (row_numbers node_reading (length (node_rows x y z)) given)
nodes_good x y z given h =
    subst (λ (k : ℕ). AreValuesOf IsNodeValue ((y + 1) * (z + 1) * (x + 1)) (row_numbers node_reading k given)) (sym (length-replicate ((y + 1) * (z + 1)) (Values Nodes (x + 1))))
    (rows_good Nodes (x + 1) ((y + 1) * (z + 1)) given h)
