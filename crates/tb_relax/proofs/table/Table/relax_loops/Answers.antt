use Rattle.tb_relax.proofs.InnerEdges.{three_axes, told_first, told_second, told_third}
use Rattle.tb_relax.proofs.table.Table.relax_loops.Goals as goal

pub returns-then-x-clause-moved : goal.returns-then-x-clause-moved
returns-then-x-clause-moved c = three_axes c.args.self.now _ _ _ _ _ _ _ _ c.relax_edges-x.ensures.moved c.relax_edges-y.ensures.moved c.relax_edges-z.ensures.moved (told_first _ c.relax_edges-y.result c.relax_edges-z.result c.if-x.true)

pub returns-then-y-clause-moved : goal.returns-then-y-clause-moved
returns-then-y-clause-moved c = three_axes c.args.self.now _ _ _ _ _ _ _ _ c.relax_edges-x.ensures.moved c.relax_edges-y.ensures.moved c.relax_edges-z.ensures.moved (told_second _ c.relax_edges-y.result c.relax_edges-z.result c.if-x.false c.if-y.true)

pub returns-else-y-clause-moved : goal.returns-else-y-clause-moved
returns-else-y-clause-moved c = three_axes c.args.self.now _ _ _ _ _ _ _ _ c.relax_edges-x.ensures.moved c.relax_edges-y.ensures.moved c.relax_edges-z.ensures.moved (told_third _ c.relax_edges-y.result c.relax_edges-z.result c.if-x.false c.if-y.false)
