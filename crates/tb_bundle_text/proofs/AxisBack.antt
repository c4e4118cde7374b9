-- The record of an axis reads back.
use Rattle.std.proofs.Common.{◌≡◌, ◌∙◌, ap, refl, ℕ, zero, suc, ◌+◌, ◌-◌, ◌*◌, ◌≤◌, ◌<◌, ◌==◌, Bool, true, false, List, [], ◌∷◌, ◌++◌, length, map, All, Option, Some, None, Result, Ok, arith, slice_index, get_or, ◌||◌}
use Rattle.std.proofs.lemmas.Bool.{eq-eqb, le-leb, le-ltb, lt-ltb}
use Rattle.std.proofs.lemmas.List.{length-map}
use Rattle.std.proofs.lemmas.List.Elements.{All-from_get_or, All-head, All-tail, All-weaker, Contains-get_or}
use Rattle.std.specs.List.{find, list_any}
use Rattle.std.specs.List.Sorted.{IsStrictlyIncreasing}
use Rattle.csv.specs.Records.{field_at}
use Rattle.tb_places.specs.declared.AxisName.{AxisName}
use Rattle.tb_numbers.proofs.ShortTexts.{decimal_reads_within}
use Rattle.tb_numbers.specs.declared.parse.NumberFault.{NumberFault}
use Rattle.tb_grid.specs.Axis.{IsAxis, most_lines}
use Rattle.tb_grid.specs.Grid.{most_cells}
use Rattle.tb_grid.proofs.RisingLists.{first_member, later_member, tail_rises}
use Rattle.tb_geometry.specs.Grids.{HasLines}
use Rattle.tb_geometry.proofs.Carrying.{first_is_least, last_is_greatest}
use Rattle.tb_reading.specs.Records.{first_some}
use Rattle.tb_case_records.specs.declared.fault.RecordFault.{RecordFault}
use Rattle.tb_case_records.specs.Limits.{IsOnBase}
use Rattle.tb_case_records.specs.Rows.{numbers, read_of}
use Rattle.tb_case_records.specs.Table.{axis_fault, is_above, is_none_of, last_of, letter, line_fault, line_faults, line_reading, read_line}
use Rattle.tb_case_records.proofs.Rising.{Rise}
use Rattle.tb_bundle_text.specs.Canonical.{axis_row, line_text}
use Rattle.tb_bundle_text.proofs.RowsBack.{same}

-- ---- each line

pub line_back : (n : ℕ) → n ≤ 500000 → line_reading (line_text n) ≡ Ok n
unfolding line_reading
line_back n h = decimal_reads_within 1 0 500000 n (omega arith) (omega arith) h

pub lines_back : (lines : List ℕ) → All (λ x. x ≤ 500000) lines → numbers line_reading (map line_text lines) ≡ lines
lines_back [] h = refl
lines_back (x ∷ lines) h =
    ap (λ (r : Result ℕ NumberFault). read_of r ++ numbers line_reading (map line_text lines)) (line_back x (All-head (λ x. x ≤ 500000) x lines h))
    ∙ ap (λ (l : List ℕ). x ∷ l) (lines_back lines (All-tail (λ x. x ≤ 500000) x lines h))

-- ---- they rise

rises_behind : (x : ℕ) (lines : List ℕ) → IsStrictlyIncreasing (x ∷ lines) → Rise (Some x) lines
rises_behind x [] h = tt
rises_behind x (y ∷ lines) h = (lt-ltb x y (h 0 (omega arith)), rises_behind y lines (tail_rises x (y ∷ lines) h))

rises : (lines : List ℕ) → IsStrictlyIncreasing lines → Rise None lines
rises [] h = tt
rises (x ∷ lines) h = (refl, rises_behind x lines h)

-- ---- within the hull

abbrev IsBetween : ℕ → ℕ → ℕ → Type 0
IsBetween low high x = (low ≤ x) × (x ≤ high)

line_faultless : (low high : ℕ) (before : Option ℕ) (field x : ℕ) → is_above before x ≡ true → low ≤ x → x ≤ high → line_fault low high before field (Ok x) ≡ None
line_faultless low high before field x above l h = rw (above, le-ltb x low l, le-ltb high x h) refl

faults_back : (low high : ℕ) → high ≤ 500000 → (before : Option ℕ) (field : ℕ) (lines : List ℕ) → Rise before lines → All (IsBetween low high) lines
    → first_some (line_faults low high before field (map line_text lines)) ≡ None
faults_back low high most before field [] r w = refl
faults_back low high most before field (x ∷ lines) r w =
    let here : IsBetween low high x = All-head (IsBetween low high) x lines w in
    ap (λ (t : Result ℕ NumberFault). first_some (line_fault low high before field t ∷ line_faults low high (read_line t) (field + 1) (map line_text lines)))
    (line_back x (let h = here.1 in omega arith))
    ∙ ap (λ (o : Option RecordFault). first_some (o ∷ line_faults low high (Some x) (field + 1) (map line_text lines))) (line_faultless low high before field x r.0 here.0 here.1)
    ∙ faults_back low high most (Some x) (field + 1) lines r.1 (All-tail (IsBetween low high) x lines w)

-- ---- all base lines are there

or_true : (b : Bool) → (b || true) ≡ true
or_true true = refl
or_true false = refl

found : (lines : List ℕ) (k x : ℕ) → k < length lines → get_or lines k x ≡ x → list_any (λ line. line == x) lines ≡ true
found [] k x h e = absurd (omega arith)
found (y ∷ lines) zero x h e = rw (eq-eqb y x e) refl
found (y ∷ lines) (suc k) x h e = rw (found lines k x (omega arith) e) (or_true (y == x))

complete : (lines base : List ℕ) → HasLines base lines → find (is_none_of lines) base ≡ None
complete lines [] has = refl
complete lines (b ∷ base) has =
    let (k, below, is) = has b (first_member b base b refl) in
    rw (found lines k b below is) (complete lines base (λ x there. has x (later_member b base x there)))

-- ---- the record

module _ (base lines : List ℕ) (axis : IsAxis lines) (on : IsOnBase base lines) (most : last_of base ≤ 500000) where
  between : All (IsBetween (slice_index base 0) (last_of base)) lines
  between = All-from_get_or (IsBetween (slice_index base 0) (last_of base)) lines 0
      (λ i below.
      let there = Contains-get_or lines i 0 below in
      let low = first_is_least lines axis.rising (get_or lines i 0) there in
      let high = last_is_greatest lines axis.rising (get_or lines i 0) there in
      let first = on.carries.first in
      let last = on.carries.last in
      (omega arith, omega arith))

  pub in_reach : All (λ x. x ≤ 500000) lines
  in_reach = All-weaker (IsBetween (slice_index base 0) (last_of base)) (λ x. x ≤ 500000) (λ x h. let high = h.1 in omega arith) lines between

  pub axis_lines : numbers line_reading (map line_text lines) ≡ lines
  axis_lines = lines_back lines in_reach

  pub axis_back : (case : ℕ) (a : AxisName) (cells : ℕ) → cells * (length lines - 1) ≤ most_cells → axis_fault case a base cells (axis_row a lines) ≡ None
  unfolding field_at
  axis_back case a cells few =
      rw (
        same (letter a),
        le-leb 3 (suc (length (map line_text lines))) three,
        le-leb 1 (length base) on.some,
        faults_back (slice_index base 0) (last_of base) most None 2 lines (rises lines axis.rising) between,
      )
      (rw (as_many, le-ltb most_lines (length lines) axis.most, le-ltb most_cells (cells * (length lines - 1)) few, axis_lines, complete lines base on.carries.has_all) refl)
    where
      three : 3 ≤ suc (length (map line_text lines))
      three = let t = axis.least in omega (arith, length-map lines line_text)

      as_many : suc (length (map line_text lines)) - 1 ≡ length lines
      as_many = omega (arith, length-map lines line_text)
