-- The lines of an axis from one place on.
use Rattle.std.proofs.Common.{◌≡◌, ℕ, ◌+◌, ◌<◌, ◌≤◌, List, [], ◌∷◌, ◌++◌, length, drop, Option, Some, None, Result, Ok, Err, true, refl, sym, ap, ◌∙◌, append_assoc, arith}
use Rattle.std.proofs.lemmas.List.{append-nil}
use Rattle.std.proofs.lemmas.Bool.{ltb-true}
use Rattle.csv.specs.Records.{field_at}
use Rattle.tb_detail.specs.Names.{Text}
use Rattle.tb_numbers.specs.declared.parse.NumberFault.{NumberFault}
use Rattle.tb_reading.proofs.Fields.{drop_field}
use Rattle.tb_reading.specs.Records.{Row, first_some}
use Rattle.tb_case_records.specs.declared.fault.RecordFault.{RecordFault}
use Rattle.tb_case_records.specs.Table.{is_above, line_fault, line_faults, line_reading, read_line}

-- as lines rise, the place of a line is at most two above it
abbrev pub IsCounted : Option ℕ → ℕ → Type 0
IsCounted None at = at ≡ 1
IsCounted (Some before) at = (at ≤ before + 2) × (before ≤ 500000)

pub counted : (before : Option ℕ) (at : ℕ) → IsCounted before at → at ≤ 500002
counted None at h = omega arith
counted (Some b) at h = omega arith

pub next_counted : (before : Option ℕ) (at x : ℕ) → IsCounted before at → is_above before x ≡ true → x ≤ 500000 → IsCounted (Some x) (at + 1)
next_counted None at x h a m = (omega arith, m)
next_counted (Some b) at x h a m = let l : b < x = ltb-true b x a in (omega arith, m)

module _ (low high : ℕ) (row : Row) (i : ℕ) (text : Text) (text_is : Some text ≡ field_at row i) (before : Option ℕ) where
  split : line_faults low high before (i + 1) (drop i row) ≡ line_fault low high before (i + 1) (line_reading text) ∷ line_faults low high (read_line (line_reading text)) (i + 1 + 1) (drop (i + 1) row)
  split = ap (λ (texts : Row). line_faults low high before (i + 1) texts) (drop_field row i text (sym text_is))

  pub next_line_faults : (x : ℕ) (all : Option RecordFault) → line_fault low high before (i + 1) (line_reading text) ≡ None → line_reading text ≡ Ok x
      → first_some (line_faults low high before (i + 1) (drop i row)) ≡ all
      → first_some (line_faults low high (Some x) (i + 1 + 1) (drop (i + 1) row)) ≡ all
  next_line_faults x all none ok h =
      ap (λ (r : Result ℕ NumberFault). first_some (line_faults low high (read_line r) (i + 1 + 1) (drop (i + 1) row))) (sym ok)
      ∙ ap (λ (o : Option RecordFault). first_some (o ∷ line_faults low high (read_line (line_reading text)) (i + 1 + 1) (drop (i + 1) row))) (sym none)
      ∙ ap first_some (sym split) ∙ h

  pub line_fault_here : (f : RecordFault) (all : Option RecordFault) → line_fault low high before (i + 1) (line_reading text) ≡ Some f
      → first_some (line_faults low high before (i + 1) (drop i row)) ≡ all → all ≡ Some f
  line_fault_here f all some h =
      sym h ∙ ap first_some split ∙ ap (λ (o : Option RecordFault). first_some (o ∷ line_faults low high (read_line (line_reading text)) (i + 1 + 1) (drop (i + 1) row))) some

pub no_line_fault : (low high : ℕ) (before : Option ℕ) (row : Row) (i : ℕ) (all : Option RecordFault) → drop i row ≡ [] → first_some (line_faults low high before (i + 1) (drop i row)) ≡ all → all ≡ None
no_line_fault low high before row i all e h = sym h ∙ ap (λ (texts : Row). first_some (line_faults low high before (i + 1) texts)) e
