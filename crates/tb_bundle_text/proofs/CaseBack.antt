-- The records of a case read back.
use Rattle.std.proofs.Common.{◌≡◌, ◌∙◌, ap, refl, sym, subst, ℕ, ◌+◌, ◌*◌, ◌≤◌, List, [], ◌∷◌, ◌++◌, length, drop, None, arith, append_assoc}
use Rattle.tb_places.specs.declared.AxisName.TheVariants.{X, Y, Z}
use Rattle.tb_detail.specs.declared.Environment.{Environment}
use Rattle.tb_grid.specs.Axis.{interval_count}
use Rattle.tb_grid.specs.Grid.{Axes, most_cells}
use Rattle.tb_reading.specs.Reading.{Numbered, numbered}
use Rattle.tb_reading.specs.Records.{Row, text_at}
use Rattle.tb_case_records.specs.declared.case.CaseProof.{CaseProof}
use Rattle.tb_case_records.specs.Ahead.{row_numbers}
use Rattle.tb_case_records.specs.Cases.{CaseForm, axes_in, case_of, case_table, interval_in, row_at, verdict_in, width_in}
use Rattle.tb_case_records.specs.Limits.{CaseInLimits, IsFaceValue, IsNodeValue}
use Rattle.tb_case_records.specs.Rows.{face_reading, node_reading}
use Rattle.tb_case_records.specs.Table.{Axis, Ends, Exactly, Expected, Judged, face_rows, fault_of, first_fault, last_of, node_rows, width_reading}
use Rattle.tb_bundle_text.specs.Canonical.{case_row, case_rows, ends_row, field_rows, flux_rows, values_in, verdict_row}
use Rattle.tb_bundle_text.proofs.AxisBack.{axis_back, axis_lines}
use Rattle.tb_bundle_text.proofs.GridRows.{face_rows_are, face_values, node_rows_are, node_values}
use Rattle.tb_bundle_text.proofs.LastBack.{ends_back, ends_read, verdict_back, verdict_read, width_read, words_back}
use Rattle.tb_bundle_text.proofs.Meeting.{Meets, meets_append, met, met_numbers, passed}
use Rattle.tb_bundle_text.proofs.RowsBack.{face_back, node_back, rows_meet, rows_read}

-- ---- what is awaited on a grid

abbrev nodes_on : Axes → List Expected
nodes_on g = node_rows (interval_count g.x) (interval_count g.y) (interval_count g.z)

abbrev faces_on : Axes → List Expected
faces_on g = face_rows (interval_count g.x) (interval_count g.y) (interval_count g.z)

abbrev last_two : List Expected
last_two = Ends ∷ Judged ∷ []

abbrev table_on : CaseForm → Axes → List Expected
table_on f g =
    (Exactly f.words
    ∷ Axis f.number X f.x 0
    ∷ Axis f.number Y f.y 0
    ∷ Axis f.number Z f.z (interval_count g.x * interval_count g.y)
    ∷ [])
    ++ (nodes_on g ++ (faces_on g ++ last_two))

-- what the records say where their grid is this one
abbrev behind_on : Axes → List Numbered → List Numbered
behind_on g given = drop (length (faces_on g)) (drop (length (nodes_on g)) (drop 4 given))

abbrev said_on : CaseForm → Axes → List Numbered → CaseProof
said_on f g given = record {
  case = f.case;
  grid = g;
  field = row_numbers node_reading (length (nodes_on g)) (drop 4 given);
  flux = row_numbers face_reading (length (faces_on g)) (drop (length (nodes_on g)) (drop 4 given));
  interval = interval_in (row_at (behind_on g given) 0);
  verdict = verdict_in (text_at (row_at (behind_on g given) 1) 1);
  width = width_in (width_reading (text_at (row_at (behind_on g given) 1) 2));
}

table_is : (f : CaseForm) (given : List Numbered) → case_table f given ≡ table_on f (axes_in given)
unfolding case_table
table_is f given = refl

said_is : (f : CaseForm) (given : List Numbered) → case_of f given ≡ said_on f (axes_in given) given
unfolding case_of
said_is f given = refl

-- ---- rows with their numbers

pub numbered_append : (n : ℕ) (rows more : List Row) → numbered n (rows ++ more) ≡ numbered n rows ++ numbered (n + length rows) more
numbered_append n [] more = ap (λ (k : ℕ). numbered k more) zero_more
  where
    zero_more : n ≡ n + 0
    zero_more = omega arith
numbered_append n (row ∷ rows) more = ap (λ (l : List Numbered). (n, row) ∷ l) (numbered_append (n + 1) rows more ∙ ap (λ (k : ℕ). numbered (n + 1) rows ++ numbered k more) one_more)
  where
    one_more : n + 1 + length rows ≡ n + length (row ∷ rows)
    one_more = omega arith

numbered_then : (n : ℕ) (rows more : List Row) (given : List Numbered) → numbered n (rows ++ more) ++ given ≡ numbered n rows ++ (numbered (n + length rows) more ++ given)
numbered_then n rows more given =
    ap (λ (l : List Numbered). l ++ given) (numbered_append n rows more) ∙ append_assoc (numbered n rows) (numbered (n + length rows) more) given

-- ---- a case

module _ (f : CaseForm) (environments : List Environment) (c : CaseProof) (h : CaseInLimits f c) (words : f.words ≡ case_row environments f.case.mask)
    (on_x : last_of f.x ≤ 500000) (on_y : last_of f.y ≤ 500000) (on_z : last_of f.z ≤ 500000) where
  words_are : f.words ≡ case_row environments c.case.mask
  words_are = words ∙ ap (case_row environments) (ap (λ case. case.mask) (sym h.case))

  field_many : length c.field ≡ values_in (nodes_on c.grid)
  field_many = h.field.one_each ∙ sym (node_values (interval_count c.grid.x) (interval_count c.grid.y) (interval_count c.grid.z))

  flux_many : length c.flux ≡ values_in (faces_on c.grid)
  flux_many = let e = h.flux.one_each in let v = face_values (interval_count c.grid.x) (interval_count c.grid.y) (interval_count c.grid.z) in omega (arith, e, v)

  field_meets : Meets (nodes_on c.grid) (field_rows c.grid c.field)
  field_meets = rows_meet node_reading IsNodeValue node_back (nodes_on c.grid) c.field
      (node_rows_are (interval_count c.grid.x) (interval_count c.grid.y) (interval_count c.grid.z)) field_many h.field.each

  flux_meets : Meets (faces_on c.grid) (flux_rows c.grid c.flux)
  flux_meets = rows_meet face_reading IsFaceValue face_back (faces_on c.grid) c.flux
      (face_rows_are (interval_count c.grid.x) (interval_count c.grid.y) (interval_count c.grid.z)) flux_many h.flux.each

  last_meets : Meets last_two (ends_row c.interval ∷ verdict_row c.verdict c.width ∷ [])
  last_meets = (ends_back c.interval h.low_end h.high_end, (verdict_back c.verdict c.width h.width, tt))

  few : interval_count c.grid.x * interval_count c.grid.y * interval_count c.grid.z ≤ most_cells
  few = let all = h.grid.few in omega (arith, all)

  pub case_meets : Meets (table_on f c.grid) (case_rows environments c)
  unfolding case_rows
  case_meets = (
    subst (λ (row : Row). fault_of (Exactly row) (case_row environments c.case.mask) ≡ None) (sym words_are) (words_back (case_row environments c.case.mask)),
    (
      axis_back f.x c.grid.x (h.grid.axes X) h.on_x on_x f.number X 0 (omega arith),
      (
        axis_back f.y c.grid.y (h.grid.axes Y) h.on_y on_y f.number Y 0 (omega arith),
        (
          axis_back f.z c.grid.z (h.grid.axes Z) h.on_z on_z f.number Z (interval_count c.grid.x * interval_count c.grid.y) few,
          meets_append (nodes_on c.grid) (faces_on c.grid ++ last_two) (field_rows c.grid c.field) (flux_rows c.grid c.flux ++ (ends_row c.interval ∷ verdict_row c.verdict c.width ∷ []))
              field_meets (meets_append (faces_on c.grid) last_two (flux_rows c.grid c.flux) (ends_row c.interval ∷ verdict_row c.verdict c.width ∷ []) flux_meets last_meets),
        ),
      ),
    ),
  )

  module _ (number : ℕ) (more : List Numbered) where
    abbrev given : List Numbered
    given = numbered number (case_rows environments c) ++ more

    grid_is : axes_in given ≡ c.grid
    unfolding case_rows
    grid_is = rw (axis_lines f.x c.grid.x (h.grid.axes X) h.on_x on_x, axis_lines f.y c.grid.y (h.grid.axes Y) h.on_y on_y, axis_lines f.z c.grid.z (h.grid.axes Z) h.on_z on_z) refl

    table_at : case_table f given ≡ table_on f c.grid
    table_at = table_is f given ∙ ap (table_on f) grid_is

    pub case_faultless : first_fault (case_table f given) given ≡ None
    case_faultless = subst (λ (es : List Expected). first_fault es given ≡ None) (sym table_at) (met (table_on f c.grid) (case_rows environments c) number more case_meets)

    pub case_passed : drop (length (case_table f given)) given ≡ more
    case_passed = subst (λ (es : List Expected). drop (length es) given ≡ more) (sym table_at) (passed (table_on f c.grid) (case_rows environments c) number more case_meets)

    abbrev first : ℕ
    first = number + 1 + 1 + 1 + 1

    abbrev behind_field : List Numbered
    behind_field =
        numbered (first + length (field_rows c.grid c.field)) (flux_rows c.grid c.flux)
        ++ (numbered (first + length (field_rows c.grid c.field) + length (flux_rows c.grid c.flux)) (ends_row c.interval ∷ verdict_row c.verdict c.width ∷ []) ++ more)

    abbrev behind_flux : List Numbered
    behind_flux = numbered (first + length (field_rows c.grid c.field) + length (flux_rows c.grid c.flux)) (ends_row c.interval ∷ verdict_row c.verdict c.width ∷ []) ++ more

    behind_axes_is : drop 4 given ≡ numbered first (field_rows c.grid c.field) ++ behind_field
    unfolding case_rows
    behind_axes_is =
        numbered_then first (field_rows c.grid c.field) (flux_rows c.grid c.flux ++ (ends_row c.interval ∷ verdict_row c.verdict c.width ∷ [])) more
        ∙ ap (λ (l : List Numbered). numbered first (field_rows c.grid c.field) ++ l)
        (numbered_then (first + length (field_rows c.grid c.field)) (flux_rows c.grid c.flux) (ends_row c.interval ∷ verdict_row c.verdict c.width ∷ []) more)

    behind_nodes_is : drop (length (nodes_on c.grid)) (drop 4 given) ≡ behind_field
    behind_nodes_is = ap (drop (length (nodes_on c.grid))) behind_axes_is ∙ passed (nodes_on c.grid) (field_rows c.grid c.field) first behind_field field_meets

    behind_faces_is : behind_on c.grid given ≡ behind_flux
    behind_faces_is = ap (drop (length (faces_on c.grid))) behind_nodes_is
        ∙ passed (faces_on c.grid) (flux_rows c.grid c.flux) (first + length (field_rows c.grid c.field)) behind_flux flux_meets

    field_said : row_numbers node_reading (length (nodes_on c.grid)) (drop 4 given) ≡ c.field
    field_said =
        ap (row_numbers node_reading (length (nodes_on c.grid))) behind_axes_is
        ∙ met_numbers node_reading (nodes_on c.grid) (field_rows c.grid c.field) first behind_field field_meets
        ∙ rows_read node_reading IsNodeValue node_back (nodes_on c.grid) c.field
        (node_rows_are (interval_count c.grid.x) (interval_count c.grid.y) (interval_count c.grid.z)) field_many h.field.each

    flux_said : row_numbers face_reading (length (faces_on c.grid)) (drop (length (nodes_on c.grid)) (drop 4 given)) ≡ c.flux
    flux_said =
        ap (row_numbers face_reading (length (faces_on c.grid))) behind_nodes_is
        ∙ met_numbers face_reading (faces_on c.grid) (flux_rows c.grid c.flux) (first + length (field_rows c.grid c.field)) behind_flux flux_meets
        ∙ rows_read face_reading IsFaceValue face_back (faces_on c.grid) c.flux
        (face_rows_are (interval_count c.grid.x) (interval_count c.grid.y) (interval_count c.grid.z)) flux_many h.flux.each

    interval_said : interval_in (row_at (behind_on c.grid given) 0) ≡ c.interval
    interval_said = ap (λ (l : List Numbered). interval_in (row_at l 0)) behind_faces_is ∙ ends_read c.interval h.low_end h.high_end

    verdict_said : verdict_in (text_at (row_at (behind_on c.grid given) 1) 1) ≡ c.verdict
    verdict_said = ap (λ (l : List Numbered). verdict_in (text_at (row_at l 1) 1)) behind_faces_is ∙ verdict_read c.verdict c.width

    width_said : width_in (width_reading (text_at (row_at (behind_on c.grid given) 1) 2)) ≡ c.width
    width_said = ap (λ (l : List Numbered). width_in (width_reading (text_at (row_at l 1) 2))) behind_faces_is ∙ width_read c.verdict c.width h.width

    pub case_said : case_of f given ≡ c
    case_said = said_is f given ∙ ap (λ (g : Axes). said_on f g given) grid_is ∙ rw (sym h.case, field_said, flux_said, interval_said, verdict_said, width_said) refl
