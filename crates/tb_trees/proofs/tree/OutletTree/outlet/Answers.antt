use Rattle.std.proofs.Common.{subst}
use Rattle.tb_grid.specs.Views.{along_axes}
use Rattle.tb_trees.specs.Bodies.{BodyOnGrid, KeepsTree, mesh_of}
use Rattle.tb_trees.proofs.Kept.{cell_kept, kept_counts, marks_kept, sides_kept}
use Rattle.tb_trees.proofs.tree.OutletTree.outlet.Goals as goal

pub outlet-requires-clause-cell : goal.outlet-requires-clause-cell
outlet-requires-clause-cell c =
    let inside = c.self.inside in
    let n = along_axes inside.counts in
    let keeps = subst (λ (b : BodyOnGrid). KeepsTree b n inside.tree.marks.items inside.tree.sides.items inside.tree.order.items inside.passable.items inside.solid.items) c.self.view_is c.self.invariant in
    cell_kept c.args.self.now n inside.tree.marks.items inside.tree.sides.items inside.tree.order.items inside.passable.items inside.solid.items keeps c.args.cell.0 c.requires

pub outlet-requires-clause-marks : goal.outlet-requires-clause-marks
outlet-requires-clause-marks c =
    let inside = c.self.inside in
    let n = along_axes inside.counts in
    let keeps = subst (λ (b : BodyOnGrid). KeepsTree b n inside.tree.marks.items inside.tree.sides.items inside.tree.order.items inside.passable.items inside.solid.items) c.self.view_is c.self.invariant in
    marks_kept c.args.self.now n inside.tree.marks.items inside.tree.sides.items inside.tree.order.items inside.passable.items inside.solid.items keeps

pub outlet-requires-clause-sides : goal.outlet-requires-clause-sides
outlet-requires-clause-sides c =
    let inside = c.self.inside in
    let n = along_axes inside.counts in
    let keeps = subst (λ (b : BodyOnGrid). KeepsTree b n inside.tree.marks.items inside.tree.sides.items inside.tree.order.items inside.passable.items inside.solid.items) c.self.view_is c.self.invariant in
    sides_kept c.args.self.now n inside.tree.marks.items inside.tree.sides.items inside.tree.order.items inside.passable.items inside.solid.items keeps

pub returns : goal.returns
returns c =
    let inside = c.self.inside in
    let n = along_axes inside.counts in
    let keeps = subst (λ (b : BodyOnGrid). KeepsTree b n inside.tree.marks.items inside.tree.sides.items inside.tree.order.items inside.passable.items inside.solid.items) c.self.view_is c.self.invariant in
    c.outlet.ensures (mesh_of c.args.self.now) (kept_counts c.args.self.now n inside.tree.marks.items inside.tree.sides.items inside.tree.order.items inside.passable.items inside.solid.items keeps) keeps.tree
