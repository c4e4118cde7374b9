-- A case whose records have no fault is within limits.
use Rattle.std.proofs.Common.{◌≡◌, ◌∙◌, ap, refl, sym, subst, ℕ, zero, suc, ℤ, pos, neg_ℤ, unsigned_abs, ◌+◌, ◌-◌, ◌*◌, ◌<◌, ◌≤◌, ◌^◌, ◌==◌, ◌&&◌, Bool, true, false, not, List, [], ◌∷◌, ◌++◌, length, drop, nat_le, Option, Some, None, option_map, Result, Ok, Err, arith, codes, if◌then◌else◌}
use Rattle.std.proofs.lemmas.Bool.{leb-true}
use Rattle.std.proofs.lemmas.Str.Parse.{digits_value_short}
use Rattle.std.specs.Option.{option_or}
use Rattle.std.specs.Str.{all_ascii_digits, bytes_eq}
use Rattle.std.specs.Str.Parse.{digits_value, starts_with_minus}
use Rattle.tb_places.specs.Places.{face_count, node_count}
use Rattle.tb_detail.specs.Names.{Text}
use Rattle.tb_grid.specs.Grid.{Axes, counts_of}
use Rattle.tb_numbers.proofs.Signs.{own}
use Rattle.tb_numbers.specs.Reading.{decimal_reading, digits_reading, in_range, is_number, unsigned_part, whole_reading, with_sign}
use Rattle.tb_numbers.specs.declared.parse.NumberFault.{NumberFault}
use Rattle.tb_numbers.specs.declared.parse.NumberFault.TheVariants as number
use Rattle.tb_reading.specs.Reading.{Numbered}
use Rattle.tb_reading.specs.Records.{Row, first_some, text_at}
use Rattle.tb_case_records.specs.declared.case.CaseProof.{CaseProof}
use Rattle.tb_case_records.specs.declared.fault.RecordFault.{RecordFault}
use Rattle.tb_case_records.specs.declared.fault.RecordFault.TheVariants as fault
use Rattle.tb_case_records.specs.Ahead.{row_numbers}
use Rattle.tb_case_records.specs.Cases.{CaseForm, axes_in, behind_axes, behind_faces, behind_nodes, case_faces, case_nodes, case_of, case_table, cells_in, end_in, head_table, row_at, whole_in, width_in}
use Rattle.tb_case_records.specs.Limits.{AreValuesOf, CaseInLimits, IsEnd, IsFaceValue, IsNodeValue}
use Rattle.tb_case_records.specs.Rows.{face_reading, fault_in, node_reading, shape_if}
use Rattle.tb_case_records.specs.Table.{Ends, Expected, Judged, end_fault, ends_fault, first_fault, is_verdict, verdict_fault, width_reading}
use Rattle.tb_case_records.proofs.CaseSteps.{row_at_drop}
use Rattle.tb_case_records.proofs.GoodRows.{faces_good, good_both, nodes_good}
use Rattle.tb_case_records.proofs.Rising.{impossible, none_both}
use Rattle.tb_case_records.proofs.WithinLimits.{IsFirstGood, first_good, good_grid, good_x, good_y, good_z}

-- ---- the last two records

signed_size : (b : Bool) (n : ℕ) → n < 10 ^ 38 → unsigned_abs (with_sign b n) < 10 ^ 38
signed_size true zero h = h
signed_size true (suc n) h = h
signed_size false n h = h

digits_small : (text : Text) (n : ℕ) → digits_reading text ≡ Some n → n < 10 ^ 38
digits_small [] n h = cc
digits_small (c ∷ cs) n h = by (all_ascii_digits (c ∷ cs)) (nat_le (length (c ∷ cs)) 38) refl refl h
  where
    by : (a b : Bool) → all_ascii_digits (c ∷ cs) ≡ a → nat_le (length (c ∷ cs)) 38 ≡ b
        → (if a && b then Some (digits_value 10 (c ∷ cs)) else None) ≡ Some n → n < 10 ^ 38
    by false b e f h = cc
    by true false e f h = cc
    by true true e f h =
        let same : digits_value 10 (c ∷ cs) ≡ n = cc in
        subst (λ (m : ℕ). m < 10 ^ 38) same (digits_value_short own (c ∷ cs) 38 e (leb-true (length (c ∷ cs)) 38 f))

whole_small : (text : Text) (field : ℕ) → end_fault field (whole_reading text) ≡ None → IsEnd (whole_in (whole_reading text))
unfolding whole_reading
whole_small text field h = by (digits_reading (unsigned_part text)) refl h
  where
    by : (o : Option ℕ) → digits_reading (unsigned_part text) ≡ o → end_fault field (option_map (with_sign (starts_with_minus text)) o) ≡ None
        → IsEnd (whole_in (option_map (with_sign (starts_with_minus text)) o))
    by None e h = impossible (fault.BadNumber field) h
    by (Some n) e h = signed_size (starts_with_minus text) n (digits_small (unsigned_part text) n e)

ends_good : (row : Row) → ends_fault row ≡ None → IsEnd (end_in row 1) × IsEnd (end_in row 2)
ends_good row h =
    let first = none_both (shape_if (not (bytes_eq (text_at row 0) (codes "interval") && length row == 3))) (option_or (end_fault 2 (whole_reading (text_at row 1))) (end_fault 3 (whole_reading (text_at row 2)))) h in
    let both = none_both (end_fault 2 (whole_reading (text_at row 1))) (end_fault 3 (whole_reading (text_at row 2))) first.1 in
    (whole_small (text_at row 1) 2 both.0, whole_small (text_at row 2) 3 both.1)

both_true : (a b : Bool) → (a && b) ≡ true → (a ≡ true) × (b ≡ true)
both_true true b h = (refl, h)
both_true false b h = cc

range_bound : (most : ℕ) (o : Option ℕ) (n : ℕ) → in_range 0 most o ≡ Ok n → n ≤ most
range_bound most None n h = cc
range_bound most (Some m) n h = by (nat_le 0 m) (nat_le m most) refl h
  where
    by : (a b : Bool) → nat_le m most ≡ b → (if a && b then Ok m else Err number.OutOfRange) ≡ Ok n → n ≤ most
    by true true e h = let same : m ≡ n = cc in subst (λ (k : ℕ). k ≤ most) same (leb-true m most e)
    by true false e h = cc
    by false b e h = cc

width_bound : (text : Text) (n : ℕ) → width_reading text ≡ Ok n → n ≤ 10 ^ 9
unfolding width_reading
width_bound text n e = range_bound 1000000000 (decimal_reading 0 text) n e

width_small : (text : Text) → fault_in 3 (width_reading text) ≡ None → width_in (width_reading text) ≤ 10 ^ 9
width_small text h = by (width_reading text) refl h
  where
    by : (r : Result ℕ NumberFault) → width_reading text ≡ r → fault_in 3 r ≡ None → width_in r ≤ 10 ^ 9
    by (Ok n) e h = width_bound text n e
    by (Err number.BadNumber) e h = impossible (fault.BadNumber 3) h
    by (Err number.OutOfRange) e h = impossible (fault.OutOfRange 3) h

width_good : (row : Row) → verdict_fault row ≡ None → width_in (width_reading (text_at row 2)) ≤ 10 ^ 9
width_good row h =
    width_small (text_at row 2)
    (none_both (shape_if (not (bytes_eq (text_at row 0) (codes "verdict") && (length row == 3 && is_verdict (text_at row 1))))) (fault_in 3 (width_reading (text_at row 2))) h).1

-- ---- the whole

module _ (f : CaseForm) (given : List Numbered) (h : first_fault (case_table f given) given ≡ None) where
  abbrev last_two : List Expected
  last_two = Ends ∷ Judged ∷ []

  head_and_values : (first_fault (head_table f given) given ≡ None) × (first_fault (case_nodes given ++ (case_faces given ++ last_two)) (behind_axes given) ≡ None)
  unfolding case_table
  head_and_values = good_both (head_table f given) (case_nodes given ++ (case_faces given ++ last_two)) given h

  nodes_and_rest : (first_fault (case_nodes given) (behind_axes given) ≡ None) × (first_fault (case_faces given ++ last_two) (behind_nodes given) ≡ None)
  nodes_and_rest = good_both (case_nodes given) (case_faces given ++ last_two) (behind_axes given) head_and_values.1

  faces_and_end : (first_fault (case_faces given) (behind_nodes given) ≡ None) × (first_fault last_two (behind_faces given) ≡ None)
  faces_and_end = good_both (case_faces given) last_two (behind_nodes given) nodes_and_rest.1

  at_interval : IsFirstGood Ends (Judged ∷ []) (behind_faces given)
  at_interval = first_good Ends (Judged ∷ []) (behind_faces given) faces_and_end.1

  at_verdict : IsFirstGood Judged [] (drop 1 (behind_faces given))
  at_verdict = first_good Judged [] (drop 1 (behind_faces given)) at_interval.rest

  nodes_counted : (cells_in given 2 + 1) * (cells_in given 3 + 1) * (cells_in given 1 + 1) ≡ node_count (counts_of (axes_in given))
  nodes_counted = omega arith

  faces_counted : (x y z : ℕ) → z * (y * x + (y * (x + 1) + (y + 1) * x)) + y * x ≡ z * (x * y + ((x + 1) * y + x * (y + 1))) + x * y
  faces_counted x y z = omega arith

  width_at : width_in (width_reading (text_at (row_at (drop 1 (behind_faces given)) 0) 2)) ≤ 10 ^ 9
  width_at = width_good (row_at (drop 1 (behind_faces given)) 0) at_verdict.here

  pub good_case : CaseInLimits f (case_of f given)
  unfolding case_of
  good_case = record {
    case = refl;
    grid = good_grid f given head_and_values.0;
    on_x = (good_x f given head_and_values.0).base;
    on_y = (good_y f given head_and_values.0).base;
    on_z = (good_z f given head_and_values.0).base;
    field = subst (λ (n : ℕ). AreValuesOf IsNodeValue n (row_numbers node_reading (length (case_nodes given)) (behind_axes given))) nodes_counted
        (nodes_good (cells_in given 1) (cells_in given 2) (cells_in given 3) (behind_axes given) nodes_and_rest.0);
    flux = subst (λ (n : ℕ). AreValuesOf IsFaceValue n (row_numbers face_reading (length (case_faces given)) (behind_nodes given)))
        (faces_counted (cells_in given 1) (cells_in given 2) (cells_in given 3))
        (faces_good (cells_in given 1) (cells_in given 2) (cells_in given 3) (behind_nodes given) faces_and_end.0);
    low_end = (ends_good (row_at (behind_faces given) 0) at_interval.here).0;
    high_end = (ends_good (row_at (behind_faces given) 0) at_interval.here).1;
    width = subst (λ (row : Row). width_in (width_reading (text_at row 2)) ≤ 10 ^ 9) (row_at_drop 1 0 (behind_faces given)) width_at;
  }
