use Rattle.std.proofs.Common.{◌<◌, List, Bool, ap, length, subst, sym, ◌∙◌}
use Rattle.tb_places.specs.Places.{Counts, face_count}
use Rattle.tb_grid.specs.Views.{along_axes}
use Rattle.tb_walk.specs.Isolated.{MarkSolids}
use Rattle.tb_outlets.specs.Balancing.{side_at}
use Rattle.tb_outlets.specs.Outlets.{AreOutlets}
use Rattle.tb_outlets.specs.declared.side.Side.{Side}
use Rattle.tb_trees.specs.Bodies.{BodyOnGrid, KeepsTree, mesh_of}
use Rattle.tb_trees.proofs.Kept.{kept_counts, sides_kept}
use Rattle.tb_trees.proofs.tree.OutletTree.cycle_entry.Goals as goal

pub cycle_entry-requires-clause-face : goal.cycle_entry-requires-clause-face
cycle_entry-requires-clause-face c =
    let inside = c.self.inside in
    let n = along_axes inside.counts in
    let keeps = subst (λ (b : BodyOnGrid). KeepsTree b n inside.tree.marks.items inside.tree.sides.items inside.tree.order.items inside.passable.items inside.solid.items) c.self.view_is c.self.invariant in
    subst (λ (k : Counts). c.args.face.0 < face_count k) (sym keeps.counts) c.requires

pub cycle_entry-requires-clause-solid : goal.cycle_entry-requires-clause-solid
cycle_entry-requires-clause-solid c =
    let inside = c.self.inside in
    let n = along_axes inside.counts in
    let keeps = subst (λ (b : BodyOnGrid). KeepsTree b n inside.tree.marks.items inside.tree.sides.items inside.tree.order.items inside.passable.items inside.solid.items) c.self.view_is c.self.invariant in
    ap length c.as_slice.ensures.value ∙ keeps.each

pub cycle_entry-requires-clause-sides : goal.cycle_entry-requires-clause-sides
cycle_entry-requires-clause-sides c =
    let inside = c.self.inside in
    let n = along_axes inside.counts in
    let keeps = subst (λ (b : BodyOnGrid). KeepsTree b n inside.tree.marks.items inside.tree.sides.items inside.tree.order.items inside.passable.items inside.solid.items) c.self.view_is c.self.invariant in
    ap length c.as_slice-2.ensures.value ∙ sides_kept c.args.self.now n inside.tree.marks.items inside.tree.sides.items inside.tree.order.items inside.passable.items inside.solid.items keeps

pub returns : goal.returns
returns c =
    let inside = c.self.inside in
    let n = along_axes inside.counts in
    let keeps = subst (λ (b : BodyOnGrid). KeepsTree b n inside.tree.marks.items inside.tree.sides.items inside.tree.order.items inside.passable.items inside.solid.items) c.self.view_is c.self.invariant in
    c.cycle_entry.ensures (mesh_of c.args.self.now) (kept_counts c.args.self.now n inside.tree.marks.items inside.tree.sides.items inside.tree.order.items inside.passable.items inside.solid.items keeps)
    (subst (λ (flags : List Bool). MarkSolids (mesh_of c.args.self.now).cells (mesh_of c.args.self.now) flags) (sym c.as_slice.ensures.value) keeps.solids)
    (subst (λ (sides : List Side). AreOutlets (mesh_of c.args.self.now) (side_at sides)) (sym c.as_slice-2.ensures.value) keeps.tree.outlets)
