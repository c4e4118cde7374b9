use Rattle.std.proofs.Common.{◌≡◌, true}
use Rattle.csv.specs.Records.{fields_of}
use Rattle.tb_records.proofs.OneRead.{leaves_rest, read_field}
use Rattle.tb_records.proofs.Records.next.Goals as goal

pub returns-in-Ok-clause-taken : goal.returns-in-Ok-clause-taken
returns-in-Ok-clause-taken c =
    rw (← c.self.view_is, c.if-self.false)
    (leaves_rest c.self.inside.reader c.read_byte_record.new.self (fields_of c.read_byte_record.new.row) c.in-Ok.found
    (c.self.invariant c.if-self.false) c.in-Ok.ensures.reads)

pub returns-in-Ok-clause-first_field : goal.returns-in-Ok-clause-first_field
returns-in-Ok-clause-first_field c = λ found.
    let is : c.in-Ok.found ≡ true = cc in
    read_field c.self.inside.reader c.read_byte_record.new.self (fields_of c.read_byte_record.new.row)
    (c.self.invariant c.if-self.false) (rw is at c.in-Ok.ensures.reads)
