-- The last two records of a case read back, and records of given fields.
use Rattle.std.proofs.Common.{◌≡◌, refl, ℕ, ◌≤◌, ◌^◌, true, [], ◌∷◌, None, Ok, arith}
use Rattle.csv.specs.Records.{field_at}
use Rattle.tb_numbers.proofs.ReadBack.{reads_back}
use Rattle.tb_numbers.proofs.ShortTexts.{decimal_reads_within}
use Rattle.tb_numbers.specs.Texts.{decimal_text}
use Rattle.tb_reading.specs.Records.{Row, text_at}
use Rattle.tb_terms.specs.declared.Interval.{Interval}
use Rattle.tb_case_records.specs.declared.ends.Verdict.{Verdict}
use Rattle.tb_case_records.specs.declared.ends.Verdict.TheVariants as verdict
use Rattle.tb_case_records.specs.Cases.{interval_in, verdict_in, width_in}
use Rattle.tb_case_records.specs.Limits.{IsEnd}
use Rattle.tb_case_records.specs.Table.{Exactly, ends_fault, fault_of, same_fields, verdict_fault, width_reading}
use Rattle.tb_bundle_text.specs.Canonical.{ends_row, verdict_row}
use Rattle.tb_bundle_text.proofs.RowsBack.{same}

-- ---- given fields

same_rows : (row : Row) → same_fields row row ≡ true
same_rows [] = refl
same_rows (text ∷ row) = rw (same text, same_rows row) refl

pub words_back : (row : Row) → fault_of (Exactly row) row ≡ None
words_back row = rw (same_rows row) refl

-- ---- an interval

pub ends_back : (ends : Interval) → IsEnd ends.lo → IsEnd ends.hi → ends_fault (ends_row ends) ≡ None
unfolding field_at
ends_back ends low high = rw (reads_back ends.lo low, reads_back ends.hi high) refl

pub ends_read : (ends : Interval) → IsEnd ends.lo → IsEnd ends.hi → interval_in (ends_row ends) ≡ ends
unfolding field_at
ends_read ends low high = rw (reads_back ends.lo low, reads_back ends.hi high) refl

-- ---- a verdict and its width

pub width_back : (width : ℕ) → width ≤ 10 ^ 9 → width_reading (decimal_text 0 width) ≡ Ok width
unfolding width_reading
width_back width h = decimal_reads_within 0 0 1000000000 width (omega arith) (omega arith) h

pub verdict_back : (v : Verdict) (width : ℕ) → width ≤ 10 ^ 9 → verdict_fault (verdict_row v width) ≡ None
unfolding field_at
verdict_back verdict.Done width h = rw (width_back width h) refl
verdict_back verdict.GridLimit width h = rw (width_back width h) refl
verdict_back verdict.SweepsSpent width h = rw (width_back width h) refl

pub verdict_read : (v : Verdict) (width : ℕ) → verdict_in (text_at (verdict_row v width) 1) ≡ v
unfolding field_at
verdict_read verdict.Done width = refl
verdict_read verdict.GridLimit width = refl
verdict_read verdict.SweepsSpent width = refl

pub width_read : (v : Verdict) (width : ℕ) → width ≤ 10 ^ 9 → width_in (width_reading (text_at (verdict_row v width) 2)) ≡ width
unfolding field_at
width_read v width h = rw (width_back width h) refl
