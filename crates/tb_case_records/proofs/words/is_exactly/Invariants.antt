use Rattle.std.proofs.Common.{◌≡◌, Bor, length, map, drop}
use Rattle.csv.specs.Records.{fields_of}
use Rattle.tb_detail.specs.Names.{Text}
use Rattle.tb_case_records.specs.Table.{same_fields}
use Rattle.tb_case_records.proofs.words.is_exactly.Given as goal

abbrev pub invariant-loop-at : goal.invariant-loop-at
invariant-loop-at l = record {
  same_length : length (fields_of l.row) ≡ length l.words;
  rest : same_fields (map (λ (w : Bor Text). w.now) l.words) (fields_of l.row) ≡ same_fields (drop l.at (map (λ (w : Bor Text). w.now) l.words)) (drop l.at (fields_of l.row));
}
