use Rattle.std.proofs.Common.{refl}
use Rattle.tb_tables.proofs.Lent.{lent_of}
use Rattle.tb_tables.proofs.whole.Tables.table.Goals as goal

pub returns-clause-of_mesh : goal.returns-clause-of_mesh
returns-clause-of_mesh c = λ m inside of. lent_of m inside c.args.self.now (record { counts = c.args.self.now.counts; cell_rows = c.as_slice.result; cells = c.as_slice-2.result; face_rows = c.as_slice-3.result; faces = c.as_slice-4.result }) of refl c.as_slice.ensures.value c.as_slice-2.ensures.value c.as_slice-3.ensures.value c.as_slice-4.ensures.value
