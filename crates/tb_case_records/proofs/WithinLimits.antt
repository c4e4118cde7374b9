-- A case whose records have no fault is on a grid.
use Rattle.std.proofs.Common.{◌≡◌, ◌∙◌, ap, refl, sym, subst, ℕ, suc, ◌+◌, ◌-◌, ◌*◌, ◌<◌, ◌≤◌, Bool, true, false, not, ◌&&◌, ◌||◌, List, [], ◌∷◌, ◌++◌, length, drop, length-drop, Option, Some, None, arith, option_map, if◌then◌else◌, nat_le, nat_lt, slice_index}
use Rattle.std.proofs.lemmas.Bool.{leb-true, ltb-false}
use Rattle.std.specs.List.{find}
use Rattle.std.specs.List.Sorted.{IsStrictlyIncreasing}
use Rattle.std.specs.Option.{option_or}
use Rattle.std.specs.Str.{bytes_eq}
use Rattle.tb_places.specs.declared.AxisName.{AxisName}
use Rattle.tb_places.specs.declared.AxisName.TheVariants.{X, Y, Z}
use Rattle.tb_grid.specs.Axis.{IsAxis, interval_count, most_lines}
use Rattle.tb_grid.specs.Grid.{Axes, IsGrid, lines_of, most_cells}
use Rattle.tb_reading.specs.Reading.{Numbered}
use Rattle.tb_reading.specs.Records.{Row, first_some, text_at}
use Rattle.tb_case_records.specs.declared.fault.BundleFault.{BundleFault}
use Rattle.tb_case_records.specs.declared.fault.BundleFault.TheVariants as bundle
use Rattle.tb_case_records.specs.declared.fault.RecordFault.{RecordFault}
use Rattle.tb_case_records.specs.declared.fault.RecordFault.TheVariants as fault
use Rattle.tb_case_records.specs.Faults.{placed}
use Rattle.tb_case_records.specs.Cases.{AreAxes, CaseForm, axes_in, cells_in, head_table, lines_in, row_at}
use Rattle.tb_case_records.specs.Limits.{IsOnBase}
use Rattle.tb_case_records.specs.Rows.{numbers, shape_if}
use Rattle.tb_case_records.specs.Table.{Axis, Exactly, Expected, axis_fault, fault_of, faults, first_fault, is_none_of, is_too_large, last_of, letter, line_faults, line_of_fault, line_reading}
use Rattle.tb_case_records.proofs.Carried.{carried}
use Rattle.tb_case_records.proofs.CaseSteps.{row_at_drop}
use Rattle.tb_case_records.proofs.Rising.{AreRisen, impossible, increasing, none_both, risen}

-- ---- the first of awaited records

no_record_fault : (n : ℕ) (o : Option RecordFault) (rest : List (Option BundleFault)) → first_some (line_of_fault n o ∷ rest) ≡ None → (o ≡ None) × (first_some rest ≡ None)
no_record_fault n None rest h = (refl, h)
no_record_fault n (Some f) rest h = impossible (placed n f) h

pub record IsFirstGood (e : Expected) (es : List Expected) (given : List Numbered) : Type 0 where
  pub here : fault_of e (row_at given 0) ≡ None
  pub rest : first_fault es (drop 1 given) ≡ None

pub first_good : (e : Expected) (es : List Expected) (given : List Numbered) → first_fault (e ∷ es) given ≡ None → IsFirstGood e es given
first_good e es [] h = impossible bundle.NoEnd h
first_good e es (r ∷ given) h =
    let both : (fault_of e r.1 ≡ None) × (first_some (faults es given) ≡ None) = no_record_fault r.0 (fault_of e r.1) (faults es given) h in
    record { here = both.0; rest = both.1 }

-- ---- the record of an axis

right_shape : (b : Bool) → shape_if (not b) ≡ None → b ≡ true
right_shape true h = refl
right_shape false h = impossible fault.Shape h

both_true : (a b : Bool) → (a && b) ≡ true → (a ≡ true) × (b ≡ true)
both_true true b h = (refl, h)
both_true false b h = cc

few_enough : (a b : Bool) → (if a || b then Some fault.GridTooLarge else None) ≡ None → (a ≡ false) × (b ≡ false)
few_enough true b h = impossible fault.GridTooLarge h
few_enough false true h = impossible fault.GridTooLarge h
few_enough false false h = (refl, refl)

none_found : (case : ℕ) (axis : AxisName) (o : Option ℕ) → option_map (λ line. fault.LineMissing case axis line) o ≡ None → o ≡ None
none_found case axis None h = refl
none_found case axis (Some line) h = impossible (fault.LineMissing case axis line) h

-- what an axis record without a fault says
pub record IsGoodAxis (bases : List ℕ) (cells : ℕ) (lines : List ℕ) : Type 0 where
  pub axis : IsAxis lines
  pub base : IsOnBase bases lines
  pub few : cells * (length lines - 1) ≤ most_cells

module _ (case : ℕ) (axis : AxisName) (bases : List ℕ) (cells : ℕ) (row : Row) (h : axis_fault case axis bases cells row ≡ None) where
  abbrev shape : Bool
  shape = bytes_eq (text_at row 0) (letter axis) && (nat_le 3 (length row) && nat_le 1 (length bases))

  abbrev lines_fault : Option RecordFault
  lines_fault = first_some (line_faults (slice_index bases 0) (last_of bases) None 2 (drop 1 row))

  abbrev large_fault : Option RecordFault
  large_fault = if is_too_large (length row - 1) cells then Some fault.GridTooLarge else None

  abbrev missing_fault : Option RecordFault
  missing_fault = option_map (λ line. fault.LineMissing case axis line) (find (is_none_of (numbers line_reading (drop 1 row))) bases)

  pub good_axis : IsGoodAxis bases cells (numbers line_reading (drop 1 row))
  good_axis =
      let first : (shape_if (not shape) ≡ None) × (option_or lines_fault (option_or large_fault missing_fault) ≡ None) =
      none_both (shape_if (not shape)) (option_or lines_fault (option_or large_fault missing_fault)) h in
      let second : (lines_fault ≡ None) × (option_or large_fault missing_fault ≡ None) = none_both lines_fault (option_or large_fault missing_fault) first.1 in
      let third : (large_fault ≡ None) × (missing_fault ≡ None) = none_both large_fault missing_fault second.1 in
      let good : AreRisen None (drop 1 row) = risen (slice_index bases 0) (last_of bases) None 2 (drop 1 row) second.0 in
      let sizes : (nat_le 3 (length row) ≡ true) × (nat_le 1 (length bases) ≡ true) =
      both_true (nat_le 3 (length row)) (nat_le 1 (length bases)) (both_true (bytes_eq (text_at row 0) (letter axis)) (nat_le 3 (length row) && nat_le 1 (length bases)) (right_shape shape first.0)).1 in
      let three : 3 ≤ length row = leb-true 3 (length row) sizes.0 in
      let some : 1 ≤ length bases = leb-true 1 (length bases) sizes.1 in
      let rising : IsStrictlyIncreasing (numbers line_reading (drop 1 row)) = increasing None (numbers line_reading (drop 1 row)) good.rise in
      let few : (nat_lt most_lines (length row - 1) ≡ false) × (nat_lt most_cells (cells * (length row - 1 - 1)) ≡ false) =
      few_enough (nat_lt most_lines (length row - 1)) (nat_lt most_cells (cells * (length row - 1 - 1))) third.0 in
      let many : length (numbers line_reading (drop 1 row)) ≡ length row - 1 = good.each ∙ length-drop 1 row in
      let most : length row - 1 ≤ most_lines = ltb-false most_lines (length row - 1) few.0 in
      record {
        axis = record {
          least = omega (arith, many, three);
          most = omega (arith, many, most);
          rising = rising;
        };
        base = record { some = some; carries = carried bases 2 (drop 1 row) some rising second.0 (none_found case axis _ third.1) };
        few = subst (λ (n : ℕ). cells * (n - 1) ≤ most_cells) (sym many) (ltb-false most_cells (cells * (length row - 1 - 1)) few.1);
      }

-- ---- the records of a grid

module _ (f : CaseForm) (given : List Numbered) (h : first_fault (head_table f given) given ≡ None) where
  abbrev on_x : List Expected
  on_x = Axis f.number X f.x 0 ∷ Axis f.number Y f.y 0 ∷ Axis f.number Z f.z (cells_in given 1 * cells_in given 2) ∷ []

  abbrev on_y : List Expected
  on_y = Axis f.number Y f.y 0 ∷ Axis f.number Z f.z (cells_in given 1 * cells_in given 2) ∷ []

  abbrev on_z : List Expected
  on_z = Axis f.number Z f.z (cells_in given 1 * cells_in given 2) ∷ []

  after_words : IsFirstGood (Exactly f.words) on_x given
  after_words = first_good (Exactly f.words) on_x given h

  after_x : IsFirstGood (Axis f.number X f.x 0) on_y (drop 1 given)
  after_x = first_good (Axis f.number X f.x 0) on_y (drop 1 given) after_words.rest

  after_y : IsFirstGood (Axis f.number Y f.y 0) on_z (drop 1 (drop 1 given))
  after_y = first_good (Axis f.number Y f.y 0) on_z (drop 1 (drop 1 given)) after_x.rest

  after_z : IsFirstGood (Axis f.number Z f.z (cells_in given 1 * cells_in given 2)) [] (drop 1 (drop 1 (drop 1 given)))
  after_z = first_good (Axis f.number Z f.z (cells_in given 1 * cells_in given 2)) [] (drop 1 (drop 1 (drop 1 given))) after_y.rest

  pub good_x : IsGoodAxis f.x 0 (lines_in given 1)
  good_x = subst (λ (row : Row). IsGoodAxis f.x 0 (numbers line_reading (drop 1 row))) (row_at_drop 1 0 given)
      (good_axis f.number X f.x 0 (row_at (drop 1 given) 0) after_x.here)

  pub good_y : IsGoodAxis f.y 0 (lines_in given 2)
  good_y = subst (λ (row : Row). IsGoodAxis f.y 0 (numbers line_reading (drop 1 row))) (row_at_drop 1 0 (drop 1 given) ∙ row_at_drop 1 1 given)
      (good_axis f.number Y f.y 0 (row_at (drop 1 (drop 1 given)) 0) after_y.here)

  pub good_z : IsGoodAxis f.z (cells_in given 1 * cells_in given 2) (lines_in given 3)
  good_z = subst (λ (row : Row). IsGoodAxis f.z (cells_in given 1 * cells_in given 2) (numbers line_reading (drop 1 row)))
      (row_at_drop 1 0 (drop 1 (drop 1 given)) ∙ row_at_drop 1 1 (drop 1 given) ∙ row_at_drop 1 2 given)
      (good_axis f.number Z f.z (cells_in given 1 * cells_in given 2) (row_at (drop 1 (drop 1 (drop 1 given))) 0) after_z.here)

  each_axis : (a : AxisName) → IsAxis (lines_of (axes_in given) a)
  each_axis X = good_x.axis
  each_axis Y = good_y.axis
  each_axis Z = good_z.axis

  pub good_grid : IsGrid (axes_in given)
  good_grid = record { axes = each_axis; few = let few = good_z.few in omega arith }

pub grid_of_lines : (f : CaseForm) (given : List Numbered) (x y z : List ℕ) → AreAxes x y z given → first_fault (head_table f given) given ≡ None
    → IsGrid (record { x = x; y = y; z = z })
grid_of_lines f given x y z a h = rw (a.on_x, a.on_y, a.on_z) (good_grid f given h)
