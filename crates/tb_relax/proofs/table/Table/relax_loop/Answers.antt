use Rattle.tb_relax.specs.Tables.{flux_forms}
use Rattle.tb_relax.proofs.InnerEdges.{as_loop}
use Rattle.tb_relax.proofs.table.Table.relax_loop.Goals as goal

pub returns-clause-moved : goal.returns-clause-moved
returns-clause-moved c = as_loop c.args.self.now (flux_forms c.args.self.now) c.faces_round.result c.args.axis c.args.edge _ _ c.faces_round.ensures.flows c.relax_round.ensures.moved
