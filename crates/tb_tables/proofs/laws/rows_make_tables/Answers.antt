use Rattle.tb_tables.proofs.Tables.{table_of}
use Rattle.tb_tables.proofs.laws.rows_make_tables.Goals as goal

pub returns : goal.returns
returns c = table_of
