use Rattle.tb_model.specs.Values.{case_of}
use Rattle.tb_tables.proofs.Lent.{tables_of}
use Rattle.tb_tables.proofs.whole.Tables.new.Goals as goal

pub returns : goal.returns
returns c = tables_of c.args.body.now c.args.grid.now (case_of c.args.case.mask) (record { counts = c.counts.result; cells = c.in_ok-cells.cells; faces = c.in_ok-faces.faces }) c.counts.ensures.on_x c.counts.ensures.on_y c.counts.ensures.on_z c.in_ok-cells.ensures c.in_ok-faces.ensures
