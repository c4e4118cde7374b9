use Rattle.std.proofs.Common.{Ok, ap, ◌∙◌}
use Rattle.csv.specs.Records.{fields_of}
use Rattle.tb_reading.proofs.Holding.{declared_is_new}
use Rattle.tb_reading.proofs.draft.Draft.add.Goals as goal

pub add_name-requires : goal.add_name-requires
add_name-requires c = declared_is_new c.args.self.now (fields_of c.args.row.now) c.in-Record.kind c.in-Record.values (c.requires ∙ ap Ok c.in-Record.is)
