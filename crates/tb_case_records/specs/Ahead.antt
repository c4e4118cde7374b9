-- The records that a reader has ahead of it, without remarks.
use Rattle.std.specs.Prelude.{◌≡◌, ◌+◌, ◌≤◌, ℕ, Bool, true, false, not, List, [], ◌∷◌, length, drop, take, filter, Result}
use Rattle.std.specs.List.{flat_map}
use Rattle.tb_numbers.specs.declared.parse.NumberFault.{NumberFault}
use Rattle.tb_detail.specs.Names.{Text}
use Rattle.tb_records.specs.Records.{is_remark}
use Rattle.tb_reading.specs.Reading.{Numbered, numbered}
use Rattle.tb_reading.specs.Records.{Row}
use Rattle.tb_case_records.specs.Rows.{numbers}

-- numbered records that are no remarks
abbrev pub without_remarks : List Numbered → List Numbered
without_remarks given = filter (λ (r : Numbered). not (is_remark r.1)) given

-- the records ahead with their numbers, and how many records there are in all, with remarks
pub record Ahead : Type 0 where
  pub ahead : List Numbered
  pub total : ℕ

-- a reader at this record, or at the end
abbrev pub ahead_from : Bool → ℕ → Row → List Row → List Numbered
ahead_from true number row left = (number, row) ∷ without_remarks (numbered (number + 1) left)
ahead_from false number row left = []

-- the records of a text
abbrev pub all_ahead : List Row → Ahead
all_ahead rows = record { ahead = without_remarks (numbered 1 rows); total = length rows }

-- the numbers of the first so many records, each behind its word
abbrev pub row_numbers : {X : Type 0} → (Text → Result X NumberFault) → ℕ → List Numbered → List X
row_numbers reading count given = flat_map (λ (r : Numbered). numbers reading (drop 1 r.1)) (take count given)

-- the next record behind these, if there is one
pub record IsNextRecord (number : ℕ) (old : List Row) (found : Bool) (at : ℕ) (row : Row) (new : List Row) : Type 0 where
  pub ahead : ahead_from found at row new ≡ without_remarks (numbered (number + 1) old)
  pub total : at + length new ≡ number + length old
  pub ended : found ≡ false → new ≡ []
  pub plain : found ≡ true → is_remark row ≡ false

-- the record of this number stands ahead
abbrev pub IsAt : ℕ → Row → List Numbered → Type 0
IsAt number row ahead = ahead ≡ (number, row) ∷ drop 1 ahead

-- one record is passed
pub record IsOnePast (old new : Ahead) : Type 0 where
  pub rest : new.ahead ≡ drop 1 old.ahead
  pub total : new.total ≡ old.total
