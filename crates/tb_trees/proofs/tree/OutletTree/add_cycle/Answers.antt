use Rattle.std.proofs.Common.{◌≡◌, ◌∙◌, ap, of_z, rules, subst, to_z, ℤ, ◌+ℤ◌, ◌*ℤ◌}
use mir.Syntax.{w64}
use Rattle.tb_places.specs.Places.{Counts, face_count}
use Rattle.tb_grid.specs.Views.{along_axes}
use Rattle.tb_outlets.specs.Balancing.{flow}
use Rattle.tb_trees.specs.Bodies.{BodyOnGrid, KeepsTree, mesh_of}
use Rattle.tb_trees.proofs.Kept.{faces_kept, kept_counts, leads_read}
use Rattle.tb_trees.proofs.tree.OutletTree.add_cycle.Goals as goal

pub add_cycle-requires-clause-start : goal.add_cycle-requires-clause-start
add_cycle-requires-clause-start c =
    let inside = c.self.inside in
    let n = along_axes inside.counts in
    let keeps = subst (λ (b : BodyOnGrid). KeepsTree b n inside.tree.marks.items inside.tree.sides.items inside.tree.order.items inside.passable.items inside.solid.items) c.self.view_is c.self.invariant in
    record {
      mesh = mesh_of c.args.self.now;
      counts = kept_counts c.args.self.now n inside.tree.marks.items inside.tree.sides.items inside.tree.order.items inside.passable.items inside.solid.items keeps;
      leads = leads_read c.args.self.now n inside.tree.marks.items inside.tree.sides.items inside.tree.order.items inside.passable.items inside.solid.items keeps c.as_slice.result.now c.as_slice-2.result.now c.as_slice.ensures.value c.as_slice-2.ensures.value;
      face = c.requires.entry.0;
      entry = c.requires.entry.1;
    }

pub add_cycle-requires-clause-whole : goal.add_cycle-requires-clause-whole
add_cycle-requires-clause-whole c =
    let inside = c.self.inside in
    let n = along_axes inside.counts in
    let keeps = subst (λ (b : BodyOnGrid). KeepsTree b n inside.tree.marks.items inside.tree.sides.items inside.tree.order.items inside.passable.items inside.solid.items) c.self.view_is c.self.invariant in
    faces_kept c.args.self.now n inside.tree.marks.items inside.tree.sides.items inside.tree.order.items inside.passable.items inside.solid.items keeps _ c.requires.whole

pub returns-clause-whole : goal.returns-clause-whole
returns-clause-whole c =
    let inside = c.self.inside in
    let n = along_axes inside.counts in
    let keeps = subst (λ (b : BodyOnGrid). KeepsTree b n inside.tree.marks.items inside.tree.sides.items inside.tree.order.items inside.passable.items inside.solid.items) c.self.view_is c.self.invariant in
    c.add_cycle.ensures.whole ∙ ap (λ (k : Counts). face_count k) keeps.counts

pub returns-clause-added : goal.returns-clause-added
returns-clause-added c =
    let inside = c.self.inside in
    let n = along_axes inside.counts in
    let keeps = subst (λ (b : BodyOnGrid). KeepsTree b n inside.tree.marks.items inside.tree.sides.items inside.tree.order.items inside.passable.items inside.solid.items) c.self.view_is c.self.invariant in
    let whole : to_z w64 (of_z w64 c.args.multiple) ≡ c.args.multiple = search rules in
    λ f cycle entry is g. c.add_cycle.ensures.added (mesh_of c.args.self.now) (kept_counts c.args.self.now n inside.tree.marks.items inside.tree.sides.items inside.tree.order.items inside.passable.items inside.solid.items keeps)
    (leads_read c.args.self.now n inside.tree.marks.items inside.tree.sides.items inside.tree.order.items inside.passable.items inside.solid.items keeps c.as_slice.result.now c.as_slice-2.result.now c.as_slice.ensures.value c.as_slice-2.ensures.value) f cycle entry is g
    ∙ ap (λ (more : ℤ). flow c.args.flows.now g +ℤ more *ℤ flow cycle g) whole
