-- Rows that meet awaited records: one row for each, none at fault.
use Rattle.std.proofs.Common.{◌≡◌, ◌∙◌, ap, refl, ℕ, suc, ◌+◌, List, [], ◌∷◌, ◌++◌, length, drop, Option, None, Result}
use Rattle.std.specs.List.{flat_map}
use Rattle.tb_detail.specs.Names.{Text}
use Rattle.tb_numbers.specs.declared.parse.NumberFault.{NumberFault}
use Rattle.tb_reading.specs.Reading.{Numbered, numbered}
use Rattle.tb_reading.specs.Records.{Row, first_some}
use Rattle.tb_case_records.specs.declared.fault.RecordFault.{RecordFault}
use Rattle.tb_case_records.specs.Ahead.{row_numbers}
use Rattle.tb_case_records.specs.Rows.{numbers}
use Rattle.tb_case_records.specs.Table.{Expected, fault_of, faults, first_fault, line_of_fault}

abbrev pub Meets : List Expected → List Row → Type 0
Meets [] [] = Unit {0}
Meets [] (row ∷ rows) = ⊥
Meets (e ∷ es) [] = ⊥
Meets (e ∷ es) (row ∷ rows) = (fault_of e row ≡ None) × Meets es rows

pub meets_append : (es fs : List Expected) (rows more : List Row) → Meets es rows → Meets fs more → Meets (es ++ fs) (rows ++ more)
meets_append [] fs [] more h k = k
meets_append [] fs (row ∷ rows) more h k = absurd h
meets_append (e ∷ es) fs [] more h k = absurd h
meets_append (e ∷ es) fs (row ∷ rows) more h k = (h.0, meets_append es fs rows more h.1 k)

pub meets_length : (es : List Expected) (rows : List Row) → Meets es rows → length es ≡ length rows
meets_length [] [] h = refl
meets_length [] (row ∷ rows) h = absurd h
meets_length (e ∷ es) [] h = absurd h
meets_length (e ∷ es) (row ∷ rows) h = ap suc (meets_length es rows h.1)

-- ---- with their numbers, and more records behind them

pub met : (es : List Expected) (rows : List Row) (number : ℕ) (more : List Numbered) → Meets es rows → first_fault es (numbered number rows ++ more) ≡ None
met [] [] number more h = refl
met [] (row ∷ rows) number more h = absurd h
met (e ∷ es) [] number more h = absurd h
met (e ∷ es) (row ∷ rows) number more h =
    ap (λ (o : Option RecordFault). first_some (line_of_fault number o ∷ faults es (numbered (number + 1) rows ++ more))) h.0
    ∙ met es rows (number + 1) more h.1

pub passed : (es : List Expected) (rows : List Row) (number : ℕ) (more : List Numbered) → Meets es rows → drop (length es) (numbered number rows ++ more) ≡ more
passed [] [] number more h = refl
passed [] (row ∷ rows) number more h = absurd h
passed (e ∷ es) [] number more h = absurd h
passed (e ∷ es) (row ∷ rows) number more h = passed es rows (number + 1) more h.1

-- the numbers of rows, each behind its word
abbrev pub numbers_of_rows : {X : Type 0} → (Text → Result X NumberFault) → List Row → List X
numbers_of_rows reading rows = flat_map (λ row. numbers reading (drop 1 row)) rows

pub met_numbers : {X : Type 0} (reading : Text → Result X NumberFault) (es : List Expected) (rows : List Row) (number : ℕ) (more : List Numbered) → Meets es rows
    → row_numbers reading (length es) (numbered number rows ++ more) ≡ numbers_of_rows reading rows
met_numbers reading [] [] number more h = refl
met_numbers reading [] (row ∷ rows) number more h = absurd h
met_numbers reading (e ∷ es) [] number more h = absurd h
met_numbers {X} reading (e ∷ es) (row ∷ rows) number more h =
    ap (λ (l : List X). numbers reading (drop 1 row) ++ l) (met_numbers reading es rows (number + 1) more h.1)
