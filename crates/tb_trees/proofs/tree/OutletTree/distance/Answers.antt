use Rattle.std.proofs.Common.{subst}
use Rattle.tb_grid.specs.Views.{along_axes}
use Rattle.tb_trees.specs.Bodies.{BodyOnGrid, KeepsTree, mesh_of}
use Rattle.tb_trees.proofs.tree.OutletTree.distance.Goals as goal

pub returns : goal.returns
returns c =
    let inside = c.self.inside in
    let n = along_axes inside.counts in
    let keeps = subst (λ (b : BodyOnGrid). KeepsTree b n inside.tree.marks.items inside.tree.sides.items inside.tree.order.items inside.passable.items inside.solid.items) c.self.view_is c.self.invariant in
    c.distance.ensures.distance (mesh_of c.args.self.now) keeps.tree
