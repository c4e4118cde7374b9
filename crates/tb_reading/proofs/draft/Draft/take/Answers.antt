use Rattle.std.proofs.Common.{sym}
use Rattle.csv.specs.Records.{fields_of}
use Rattle.tb_reading.proofs.Holding.{refused, taken}
use Rattle.tb_reading.proofs.draft.Draft.take.Goals as goal

pub returns-in-Ok-add : goal.returns-in-Ok-add
returns-in-Ok-add c = λ given h. taken c.args.self.now c.add.new.self given c.in-Ok.said c.args.number (fields_of c.args.row.now) h (sym c.in-Ok.ensures) c.in-Ok-add.ensures

pub returns-in-Err : goal.returns-in-Err
returns-in-Err c = λ given h. refused c.args.self.now given c.in-Err.fault (fields_of c.args.row.now) h (sym c.in-Err.ensures)
