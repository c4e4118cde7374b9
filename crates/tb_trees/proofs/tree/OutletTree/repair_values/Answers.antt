use Rattle.std.proofs.Common.{subst}
use Rattle.tb_grid.specs.Views.{along_axes}
use Rattle.tb_outlets.specs.Balancing.{side_at}
use Rattle.tb_outlets.specs.Searching.{distance_at}
use Rattle.tb_model.specs.Values.{flux_of}
use Rattle.tb_outlets.proofs.Repaired.{one_repair}
use Rattle.tb_outlets.proofs.RepairedFluxes.{one_repaired_flux}
use Rattle.tb_trees.specs.Bodies.{BodyOnGrid, KeepsTree, mesh_of}
use Rattle.tb_trees.proofs.Kept.{faces_kept, kept_counts, passable_kept, slice_passes, tree_kept}
use Rattle.tb_trees.proofs.tree.OutletTree.repair_values.Goals as goal

pub repair_along-requires-clause-tree : goal.repair_along-requires-clause-tree
repair_along-requires-clause-tree c =
    let inside = c.self.inside in
    let n = along_axes inside.counts in
    let keeps = subst (λ (b : BodyOnGrid). KeepsTree b n inside.tree.marks.items inside.tree.sides.items inside.tree.order.items inside.passable.items inside.solid.items) c.self.view_is c.self.invariant in
    tree_kept c.args.self.now n inside.tree.marks.items inside.tree.sides.items inside.tree.order.items inside.passable.items inside.solid.items keeps

pub repair_along-requires-clause-carries : goal.repair_along-requires-clause-carries
repair_along-requires-clause-carries c =
    let inside = c.self.inside in
    let n = along_axes inside.counts in
    let keeps = subst (λ (b : BodyOnGrid). KeepsTree b n inside.tree.marks.items inside.tree.sides.items inside.tree.order.items inside.passable.items inside.solid.items) c.self.view_is c.self.invariant in
    passable_kept c.args.self.now n inside.tree.marks.items inside.tree.sides.items inside.tree.order.items inside.passable.items inside.solid.items keeps c.as_slice.result.now c.as_slice.ensures.value

pub repair_along-requires-clause-given : goal.repair_along-requires-clause-given
repair_along-requires-clause-given c =
    let inside = c.self.inside in
    let n = along_axes inside.counts in
    let keeps = subst (λ (b : BodyOnGrid). KeepsTree b n inside.tree.marks.items inside.tree.sides.items inside.tree.order.items inside.passable.items inside.solid.items) c.self.view_is c.self.invariant in
    faces_kept c.args.self.now n inside.tree.marks.items inside.tree.sides.items inside.tree.order.items inside.passable.items inside.solid.items keeps _ c.requires.given

pub repair_along-requires-clause-values : goal.repair_along-requires-clause-values
repair_along-requires-clause-values c =
    let inside = c.self.inside in
    let n = along_axes inside.counts in
    let keeps = subst (λ (b : BodyOnGrid). KeepsTree b n inside.tree.marks.items inside.tree.sides.items inside.tree.order.items inside.passable.items inside.solid.items) c.self.view_is c.self.invariant in
    faces_kept c.args.self.now n inside.tree.marks.items inside.tree.sides.items inside.tree.order.items inside.passable.items inside.solid.items keeps _ c.requires.values

pub returns-clause-repaired : goal.returns-clause-repaired
returns-clause-repaired c =
    let inside = c.self.inside in
    let n = along_axes inside.counts in
    let keeps = subst (λ (b : BodyOnGrid). KeepsTree b n inside.tree.marks.items inside.tree.sides.items inside.tree.order.items inside.passable.items inside.solid.items) c.self.view_is c.self.invariant in
    c.repair_along.ensures (mesh_of c.args.self.now) (kept_counts c.args.self.now n inside.tree.marks.items inside.tree.sides.items inside.tree.order.items inside.passable.items inside.solid.items keeps) keeps.tree (slice_passes c.args.self.now n inside.tree.marks.items inside.tree.sides.items inside.tree.order.items inside.passable.items inside.solid.items keeps c.as_slice.result.now c.as_slice.ensures.value)

pub returns-clause-one : goal.returns-clause-one
returns-clause-one c =
    let inside = c.self.inside in
    let n = along_axes inside.counts in
    let keeps = subst (λ (b : BodyOnGrid). KeepsTree b n inside.tree.marks.items inside.tree.sides.items inside.tree.order.items inside.passable.items inside.solid.items) c.self.view_is c.self.invariant in
    λ v w first second. one_repair (mesh_of c.args.self.now) c.args.given.now v w (side_at inside.tree.sides.items) (distance_at inside.tree.marks.items) keeps.tree.outlets keeps.tree.distances first second

pub returns-clause-one_flux : goal.returns-clause-one_flux
returns-clause-one_flux c =
    let inside = c.self.inside in
    let n = along_axes inside.counts in
    let keeps = subst (λ (b : BodyOnGrid). KeepsTree b n inside.tree.marks.items inside.tree.sides.items inside.tree.order.items inside.passable.items inside.solid.items) c.self.view_is c.self.invariant in
    let m = mesh_of c.args.self.now in
    λ q r first second a p within. one_repaired_flux m (flux_of m.cells c.args.given.now) q r (side_at inside.tree.sides.items) (distance_at inside.tree.marks.items) keeps.tree.outlets keeps.tree.distances first second a p within
