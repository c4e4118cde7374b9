-- The values of a row from one place on.
use Rattle.std.proofs.Common.{◌≡◌, ℕ, ℤ, ◌+◌, ◌==◌, ◌&&◌, List, [], ◌∷◌, ◌++◌, length, drop, Option, Some, None, Result, Ok, Err, true, refl, sym, ap, ◌∙◌, append_assoc}
use Rattle.std.proofs.lemmas.List.{append-nil}
use Rattle.std.specs.Str.{bytes_eq}
use Rattle.csv.specs.Records.{field_at}
use Rattle.tb_detail.specs.Names.{Text}
use Rattle.tb_numbers.specs.declared.parse.NumberFault.{NumberFault}
use Rattle.tb_reading.proofs.Fields.{drop_field}
use Rattle.tb_reading.specs.Records.{Row, first_some, text_at}
use Rattle.tb_case_records.specs.declared.fault.RecordFault.{RecordFault}
use Rattle.tb_case_records.specs.declared.rows.RowKind.{RowKind}
use Rattle.tb_case_records.specs.Rows.{fault_in, number_faults, numbers, read_of, reading_of, row_fault, word_of}

-- a record of the right shape has the first fault among its values
pub shaped : (kind : RowKind) (count : ℕ) (row : Row) → (bytes_eq (text_at row 0) (word_of kind) && length row == count + 1) ≡ true
    → row_fault kind count row ≡ first_some (number_faults kind 2 (drop 1 row))
shaped kind count row h = rw h refl

-- at the end of the record
pub all_read : {X : Type 0} (reading : Text → Result X NumberFault) (row : Row) (i : ℕ) (before all : List X) → drop i row ≡ [] → before ++ numbers reading (drop i row) ≡ all → before ≡ all
all_read {X} reading row i before all e h = sym (append-nil before) ∙ ap (λ (texts : Row). before ++ numbers reading texts) (sym e) ∙ h

pub no_fault : (kind : RowKind) (row : Row) (i : ℕ) (all : Option RecordFault) → drop i row ≡ [] → first_some (number_faults kind (i + 1) (drop i row)) ≡ all → all ≡ None
no_fault kind row i all e h = sym h ∙ ap (λ (texts : Row). first_some (number_faults kind (i + 1) texts)) e

module _ (row : Row) (i : ℕ) (text : Text) (text_is : Some text ≡ field_at row i) where
  split : drop i row ≡ text ∷ drop (i + 1) row
  split = drop_field row i text (sym text_is)

  pub next_read : {X : Type 0} (reading : Text → Result X NumberFault) (before after all : List X) (x : X) → Ok x ≡ reading text → after ≡ before ++ x ∷ []
      → before ++ numbers reading (drop i row) ≡ all → after ++ numbers reading (drop (i + 1) row) ≡ all
  next_read {X} reading before after all x ok pushed h =
      ap (λ (l : List X). l ++ numbers reading (drop (i + 1) row)) pushed
      ∙ append_assoc before (x ∷ []) (numbers reading (drop (i + 1) row))
      ∙ ap (λ (r : Result X NumberFault). before ++ (read_of r ++ numbers reading (drop (i + 1) row))) ok
      ∙ ap (λ (texts : Row). before ++ numbers reading texts) (sym split)
      ∙ h

  module _ (kind : RowKind) (r : Result ℤ NumberFault) (is : r ≡ reading_of kind text) (all : Option RecordFault)
      (h : first_some (number_faults kind (i + 1) (drop i row)) ≡ all) where
    here : first_some (fault_in (i + 1) r ∷ number_faults kind (i + 1 + 1) (drop (i + 1) row)) ≡ all
    here = ap (λ (q : Result ℤ NumberFault). first_some (fault_in (i + 1) q ∷ number_faults kind (i + 1 + 1) (drop (i + 1) row))) is
        ∙ ap (λ (texts : Row). first_some (number_faults kind (i + 1) texts)) (sym split)
        ∙ h

    pub next_faults : (x : ℤ) → r ≡ Ok x → first_some (number_faults kind (i + 1 + 1) (drop (i + 1) row)) ≡ all
    next_faults x ok = ap (λ (q : Result ℤ NumberFault). first_some (fault_in (i + 1) q ∷ number_faults kind (i + 1 + 1) (drop (i + 1) row))) (sym ok) ∙ here

    pub fault_here : (g : RecordFault) → fault_in (i + 1) r ≡ Some g → all ≡ Some g
    fault_here g s = sym here ∙ ap (λ (o : Option RecordFault). first_some (o ∷ number_faults kind (i + 1 + 1) (drop (i + 1) row))) s
