-- The records of a bundle are plain.
use Rattle.std.proofs.Common.{◌≡◌, refl, ℕ, suc, ◌/◌, ◌%◌, ◌≤◌, ◌<◌, ◌^◌, ◌==◌, inl, inr, Bool, true, false, List, [], ◌∷◌, map, take, drop, All, ℤ, pos, negsuc, unsigned_abs, arith, if◌then◌else◌, Result}
use Rattle.std.proofs.lemmas.Fmt.{decimal_is_IsNumeral_wide}
use Rattle.std.proofs.lemmas.Int.{ints}
use Rattle.std.proofs.lemmas.List.{append-nil}
use Rattle.std.proofs.lemmas.List.Elements.{All-cons, All-drop, All-from_get_or, All-head, All-tail, All-take}
use Rattle.std.proofs.lemmas.Str.Parse.{digit_at}
use Rattle.std.proofs.Math.Nat.{div-one}
use Rattle.std.specs.Int.{is_negative}
use Rattle.std.specs.List.{list_all}
use Rattle.std.specs.Prelude.{decimal, IsTrue}
use Rattle.tb_numbers.proofs.ShortTexts.{decimal_plain, signed_plain}
use Rattle.tb_numbers.specs.Texts.{IsSignedDecimalByte, decimal_text, fixed_text}
use Rattle.tb_records.specs.Plain.{is_plain, is_plain_record}
use Rattle.tb_detail.specs.declared.Environment.{Environment}
use Rattle.tb_detail.specs.Names.{Text, is_name}
use Rattle.tb_numbers.specs.declared.parse.NumberFault.{NumberFault}
use Rattle.tb_places.specs.declared.AxisName.{AxisName}
use Rattle.tb_places.specs.declared.AxisName.TheVariants.{X, Y, Z}
use Rattle.tb_terms.specs.declared.Interval.{Interval}
use Rattle.tb_canonical.proofs.PlainFields.{decimal_byte, each_plain, name_plain, signed_byte}
use Rattle.tb_case_records.specs.declared.ends.Verdict.{Verdict}
use Rattle.tb_case_records.specs.declared.ends.Verdict.TheVariants as verdict
use Rattle.tb_case_records.specs.declared.rows.RowKind.{RowKind}
use Rattle.tb_case_records.specs.declared.rows.RowKind.TheVariants.{Nodes, Faces}
use Rattle.tb_case_records.specs.Limits.{IsEnd}
use Rattle.tb_case_records.specs.Table.{Axis, Ends, Exactly, Expected, Judged, Never, Values}
use Rattle.tb_bundle.specs.Bodies.{names_of_set}
use Rattle.tb_bundle_text.specs.Canonical.{axis_row, case_row, ends_row, line_text, value_row, value_rows, value_text, verdict_row}
use Rattle.tb_bundle_text.proofs.RowsBack.{AreRows, IsRow}

-- ---- fields

pub line_plain : (n : ℕ) → n ≤ 500000 → is_plain (line_text n) ≡ true
line_plain n h = each_plain decimal_byte (line_text n) (decimal_plain 1 n (omega arith))

pub width_plain : (n : ℕ) → n ≤ 10 ^ 9 → is_plain (decimal_text 0 n) ≡ true
width_plain n h = each_plain decimal_byte (decimal_text 0 n) (decimal_plain 0 n (omega arith))

pub value_plain : (z : ℤ) → unsigned_abs z ≤ 10 ^ 12 → is_plain (value_text z) ≡ true
value_plain z h = each_plain signed_byte (value_text z) (signed_plain 0 z (omega arith))

whole_bytes : (n : ℕ) → n < 10 ^ 38 → All IsSignedDecimalByte (decimal n)
whole_bytes n h = All-from_get_or IsSignedDecimalByte (decimal n) 0 (λ i below. inl (inl (digit_at (decimal n) i (decimal_is_IsNumeral_wide n (omega arith)).0.1 below)))

pub end_plain : (z : ℤ) → IsEnd z → is_plain (fixed_text 0 z) ≡ true
unfolding fixed_text
end_plain (pos n) h =
    let plain : is_negative (pos n) ≡ false = grind (arith, ints) in
    rw (plain, div-one n, append-nil (decimal n)) (each_plain signed_byte (decimal n) (whole_bytes n h))
end_plain (negsuc n) h =
    rw (div-one (suc n), append-nil (decimal (suc n))) (each_plain signed_byte (45 ∷ decimal (suc n)) (All-cons IsSignedDecimalByte 45 (decimal (suc n)) (inr refl) (whole_bytes (suc n) h)))

fields_plain : {X : Type 0} (P : X → Type 0) (text : X → Text) → ((x : X) → P x → is_plain (text x) ≡ true) → (xs : List X) → All P xs → list_all is_plain (map text xs) ≡ true
fields_plain P text plain [] h = refl
fields_plain P text plain (x ∷ xs) h = rw (plain x (All-head P x xs h), fields_plain P text plain xs (All-tail P x xs h)) refl

-- ---- records

abbrev IsNamed : Environment → Type 0
IsNamed e = IsTrue (is_name e.name)

names_plain : (mask : ℕ) (environments : List Environment) → All IsNamed environments → list_all is_plain (names_of_set mask environments) ≡ true
names_plain mask [] h = refl
names_plain mask (e ∷ es) h = by (mask % 2 == 1) (names_plain (mask / 2) es (All-tail IsNamed e es h))
  where
    by : (b : Bool) → list_all is_plain (names_of_set (mask / 2) es) ≡ true
        → list_all is_plain (if b then e.name ∷ names_of_set (mask / 2) es else names_of_set (mask / 2) es) ≡ true
    by true rest = rw (name_plain e.name (All-head IsNamed e es h), rest) refl
    by false rest = rest

pub case_row_plain : (mask : ℕ) (environments : List Environment) → All IsNamed environments → is_plain_record (case_row environments mask) ≡ true
case_row_plain mask environments h = rw (names_plain mask environments h) refl

pub axis_row_plain : (axis : AxisName) (lines : List ℕ) → All (λ x. x ≤ 500000) lines → is_plain_record (axis_row axis lines) ≡ true
axis_row_plain X lines h = rw (fields_plain (λ x. x ≤ 500000) line_text line_plain lines h) refl
axis_row_plain Y lines h = rw (fields_plain (λ x. x ≤ 500000) line_text line_plain lines h) refl
axis_row_plain Z lines h = rw (fields_plain (λ x. x ≤ 500000) line_text line_plain lines h) refl

abbrev IsSmall : ℤ → Type 0
IsSmall z = unsigned_abs z ≤ 10 ^ 12

row_plain : (kind : RowKind) (count : ℕ) (values : List ℤ) → All IsSmall values → is_plain_record (value_row (Values kind count) values) ≡ true
row_plain Nodes count values h = rw (fields_plain IsSmall value_text value_plain values h) refl
row_plain (Faces X) count values h = rw (fields_plain IsSmall value_text value_plain values h) refl
row_plain (Faces Y) count values h = rw (fields_plain IsSmall value_text value_plain values h) refl
row_plain (Faces Z) count values h = rw (fields_plain IsSmall value_text value_plain values h) refl

pub rows_plain : (reading : Text → Result ℤ NumberFault) (es : List Expected) (values : List ℤ) → AreRows reading es → All IsSmall values
    → list_all is_plain_record (value_rows es values) ≡ true
rows_plain reading [] values r h = refl
rows_plain reading (Exactly fields ∷ es) values r h = absurd (All-head (IsRow reading) (Exactly fields) es r)
rows_plain reading (Axis case axis bases cells ∷ es) values r h = absurd (All-head (IsRow reading) (Axis case axis bases cells) es r)
rows_plain reading (Ends ∷ es) values r h = absurd (All-head (IsRow reading) Ends es r)
rows_plain reading (Judged ∷ es) values r h = absurd (All-head (IsRow reading) Judged es r)
rows_plain reading (Never ∷ es) values r h = absurd (All-head (IsRow reading) Never es r)
rows_plain reading (Values kind count ∷ es) values r h =
    rw (
      row_plain kind count (take count values) (All-take IsSmall count values h),
      rows_plain reading es (drop count values) (All-tail (IsRow reading) (Values kind count) es r) (All-drop IsSmall count values h),
    ) refl

pub ends_plain : (ends : Interval) → IsEnd ends.lo → IsEnd ends.hi → is_plain_record (ends_row ends) ≡ true
ends_plain ends low high = rw (end_plain ends.lo low, end_plain ends.hi high) refl

pub verdict_plain : (v : Verdict) (width : ℕ) → width ≤ 10 ^ 9 → is_plain_record (verdict_row v width) ≡ true
verdict_plain verdict.Done width h = rw (width_plain width h) refl
verdict_plain verdict.GridLimit width h = rw (width_plain width h) refl
verdict_plain verdict.SweepsSpent width h = rw (width_plain width h) refl
