use Rattle.std.proofs.Common.{◌≡◌, ◌++◌, ◌-◌, ◌≤◌, map, vec_len}
use Rattle.csv.specs.Records.{fields_of}
use Rattle.tb_records.specs.Records.{records_of}
use Rattle.tb_records.proofs.first_records.Given as goal

abbrev pub invariant-loop-alloc : goal.invariant-loop-alloc
invariant-loop-alloc l = (vec_len l.rows ≤ l.limit) × (map fields_of l.rows.items ++ l.left ≡ records_of l.fn.bytes)

abbrev pub decreases-loop-alloc : goal.decreases-loop-alloc
decreases-loop-alloc l = l.limit - vec_len l.rows
