-- The canonical text of a bundle: its head, the canonical records of its detail, the records of each case, and the end.
-- The rows of values are those that a reader awaits on the grid of the case.
use Rattle.std.specs.Prelude.{ℕ, zero, ◌+◌, ℤ, List, [], ◌∷◌, ◌++◌, map, take, drop, codes}
use Rattle.std.specs.List.{flat_map}
use Rattle.tb_places.specs.declared.AxisName.{AxisName}
use Rattle.tb_places.specs.declared.AxisName.TheVariants.{X, Y, Z}
use Rattle.tb_detail.specs.declared.Environment.{Environment}
use Rattle.tb_detail.specs.Names.{Text}
use Rattle.tb_grid.specs.Axis.{interval_count}
use Rattle.tb_grid.specs.Grid.{Axes}
use Rattle.tb_numbers.specs.Texts.{decimal_text, fixed_text, signed_decimal_text}
use Rattle.tb_records.specs.Plain.{records_text}
use Rattle.tb_terms.specs.declared.Interval.{Interval}
use Rattle.tb_reading.specs.Records.{Row}
use Rattle.tb_canonical.specs.Canonical.{canonical_rows}
use Rattle.tb_case_records.specs.declared.case.CaseProof.{CaseProof}
use Rattle.tb_case_records.specs.declared.ends.Verdict.{Verdict}
use Rattle.tb_case_records.specs.declared.ends.Verdict.TheVariants as verdict
use Rattle.tb_case_records.specs.Rows.{word_of}
use Rattle.tb_case_records.specs.Table.{Expected, Values, face_rows, letter, node_rows}
use Rattle.tb_bundle.specs.declared.bundle.Bundle.{Bundle}
use Rattle.tb_bundle.specs.Bodies.{names_of_set}

-- ---- the records before the values

-- the names of the environments that are at 1, in order
abbrev pub case_row : List Environment → ℕ → Row
case_row environments mask = codes "case" ∷ names_of_set mask environments

-- a line, in mm
abbrev pub line_text : ℕ → Text
line_text line = decimal_text 1 line

abbrev pub axis_row : AxisName → List ℕ → Row
axis_row axis lines = letter axis ∷ map line_text lines

-- ---- rows of values

abbrev pub value_text : ℤ → Text
value_text value = signed_decimal_text 0 value

-- how many values an awaited record has
abbrev pub value_count : Expected → ℕ
value_count (Values kind count) = count
value_count _ = 0

-- the awaited record with these values
abbrev pub value_row : Expected → List ℤ → Row
value_row (Values kind count) values = word_of kind ∷ map value_text values
value_row _ values = []

-- how many values awaited records have in all
abbrev pub values_in : List Expected → ℕ
values_in [] = zero
values_in (e ∷ es) = value_count e + values_in es

-- the awaited records with these values, one behind the other
abbrev pub value_rows : List Expected → List ℤ → List Row
value_rows [] values = []
value_rows (e ∷ es) values = value_row e (take (value_count e) values) ∷ value_rows es (drop (value_count e) values)

-- the rows of a field and of a flux on a grid
abbrev pub field_rows : Axes → List ℤ → List Row
field_rows g values = value_rows (node_rows (interval_count g.x) (interval_count g.y) (interval_count g.z)) values

abbrev pub flux_rows : Axes → List ℤ → List Row
flux_rows g values = value_rows (face_rows (interval_count g.x) (interval_count g.y) (interval_count g.z)) values

-- ---- the records behind the values

abbrev pub ends_row : Interval → Row
ends_row ends = codes "interval" ∷ fixed_text 0 ends.lo ∷ fixed_text 0 ends.hi ∷ []

abbrev pub verdict_word : Verdict → Text
verdict_word verdict.Done = codes "done"
verdict_word verdict.GridLimit = codes "grid"
verdict_word verdict.SweepsSpent = codes "sweeps"

abbrev pub verdict_row : Verdict → ℕ → Row
verdict_row v width = codes "verdict" ∷ verdict_word v ∷ decimal_text 0 width ∷ []

-- ---- the whole

-- the records of a case
unfoldable pub case_rows : List Environment → CaseProof → List Row
case_rows environments c =
    case_row environments c.case.mask
    ∷ axis_row X c.grid.x
    ∷ axis_row Y c.grid.y
    ∷ axis_row Z c.grid.z
    ∷ (field_rows c.grid c.field
    ++ (flux_rows c.grid c.flux
    ++ (ends_row c.interval ∷ verdict_row c.verdict c.width ∷ [])))

abbrev pub head_row : Row
head_row = codes "bundle" ∷ codes "1" ∷ []

abbrev pub end_row : Row
end_row = codes "end" ∷ []

-- all records of a bundle, in order
unfoldable pub bundle_rows : Bundle → List Row
bundle_rows b =
    head_row
    ∷ (canonical_rows b.detail
    ++ (flat_map (case_rows b.detail.environments) b.cases
    ++ (end_row ∷ [])))

-- the canonical text of a bundle
abbrev pub bundle_text : Bundle → List ℕ
bundle_text b = records_text (bundle_rows b)
