use Rattle.tb_places.specs.declared.Place.{Place}
use Rattle.tb_places.proofs.ByAxis.{on_each_axis}
use Rattle.tb_weighted.specs.Moves.{IsInnerEdge}
use Rattle.tb_relax.specs.Settled.{FlowStays, loop_on}
use Rattle.tb_relax.specs.Tables.{table_counts}
use Rattle.tb_relax.proofs.table.Table.some_loop_moves.Goals as goal

pub returns-clause-stay : goal.returns-clause-stay
returns-clause-stay c = λ d. on_each_axis (λ axis. (e : Place) → IsInnerEdge (table_counts c.args.self.now) axis e → FlowStays c.args.self.now c.args.flows.now (loop_on c.args.self.now axis e)) (c.edges_move.ensures.stay c.if-edges_move.false) (c.edges_move-2.ensures.stay c.if-edges_move-2.false) (c.edges_move-3.ensures.stay d)
