use Rattle.tb_relax.proofs.Passes.{told_after, told_here, whole_pass}
use Rattle.tb_relax.proofs.table.Table.pass.Goals as goal

pub returns-then-nodes-clause-moved : goal.returns-then-nodes-clause-moved
returns-then-nodes-clause-moved c = λ m inside of. whole_pass m inside c.args.self.now of _ _ _ _ _ c.relax_loops-loops.result _ c.relax_nodes-nodes.ensures.moved c.relax_loops-loops.ensures.moved (told_here _ c.relax_loops-loops.result c.if-nodes.true)

pub returns-else-nodes-clause-moved : goal.returns-else-nodes-clause-moved
returns-else-nodes-clause-moved c = λ m inside of. whole_pass m inside c.args.self.now of _ _ _ _ _ c.relax_loops-loops.result _ c.relax_nodes-nodes.ensures.moved c.relax_loops-loops.ensures.moved (told_after c.relax_nodes-nodes.result c.relax_loops-loops.result c.if-nodes.false)
