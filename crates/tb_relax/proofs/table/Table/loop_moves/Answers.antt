use Rattle.tb_relax.specs.Tables.{flux_forms}
use Rattle.tb_relax.proofs.InnerEdges.{as_loop}
use Rattle.tb_relax.proofs.Staying.{as_loop_stays}
use Rattle.tb_relax.proofs.table.Table.loop_moves.Goals as goal

pub returns-clause-moves : goal.returns-clause-moves
returns-clause-moves c = λ d. let m = c.round_moves.ensures.moves d in record { new = m.new; move = as_loop c.args.self.now (flux_forms c.args.self.now) c.faces_round.result c.args.axis c.args.edge _ _ c.faces_round.ensures.flows m.move; differs = m.differs }

pub returns-clause-stays : goal.returns-clause-stays
returns-clause-stays c = λ d. as_loop_stays c.args.self.now c.args.flows.now c.faces_round.result c.args.axis c.args.edge c.faces_round.ensures.flows (c.round_moves.ensures.stays d)
