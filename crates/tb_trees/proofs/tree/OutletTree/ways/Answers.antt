use Rattle.std.proofs.Common.{subst}
use Rattle.tb_grid.specs.Views.{along_axes}
use Rattle.tb_trees.specs.Bodies.{BodyOnGrid, KeepsTree}
use Rattle.tb_trees.proofs.Kept.{leads_read}
use Rattle.tb_trees.proofs.tree.OutletTree.ways.Goals as goal

pub returns : goal.returns
returns c =
    let inside = c.self.inside in
    let n = along_axes inside.counts in
    let keeps = subst (λ (b : BodyOnGrid). KeepsTree b n inside.tree.marks.items inside.tree.sides.items inside.tree.order.items inside.passable.items inside.solid.items) c.self.view_is c.self.invariant in
    leads_read c.args.self.now n inside.tree.marks.items inside.tree.sides.items inside.tree.order.items inside.passable.items inside.solid.items keeps c.as_slice.result.now c.as_slice-2.result.now c.as_slice.ensures.value c.as_slice-2.ensures.value
