use Rattle.std.proofs.Common.{◌≡◌, ◌+◌, ◌++◌, length, drop}
use Rattle.csv.specs.Records.{fields_of}
use Rattle.tb_reading.specs.NameLists.{names_in}
use Rattle.tb_reading.specs.Records.{field_faults, first_some, values}
use Rattle.tb_reading.specs.declared.values.FieldValue.TheVariants.{Nothing}
use Rattle.tb_reading.proofs.records.read_fields.Given as goal

abbrev pub invariant-loop-at : goal.invariant-loop-at
invariant-loop-at l = record {
  as_many : length l.values ≡ l.at;
  said : l.values ++ values (names_in l.names) (drop l.at l.rules) (drop l.at (fields_of l.row)) ≡ values (names_in l.names) l.rules (fields_of l.row);
  faults : first_some (field_faults (names_in l.names) (l.at + 1) l.before (drop l.at l.rules) (drop l.at (fields_of l.row))) ≡ first_some (field_faults (names_in l.names) 1 Nothing l.rules (fields_of l.row));
}
