use Rattle.std.proofs.Common.{◌<◌, List, subst, sym, ◌∙◌, rules, of_z, to_z, ◌≡◌}
use mir.Syntax.{w128}
use Rattle.tb_places.specs.Places.{Counts}
use Rattle.tb_grid.specs.Views.{along_axes}
use Rattle.tb_outlets.specs.declared.marks.Mark.{Mark}
use Rattle.tb_outlets.specs.Searching.{distance_at}
use Rattle.tb_trees.specs.Bodies.{BodyOnGrid, KeepsTree, mesh_of}
use Rattle.tb_trees.proofs.Kept.{found_at_entry, kept_counts, leads_read, leads_read_on}
use Rattle.tb_trees.proofs.tree.OutletTree.cycle_pull.Goals as goal

pub cycle_pull-requires-clause-fits : goal.cycle_pull-requires-clause-fits
cycle_pull-requires-clause-fits g c =
    let inside = c.self.inside in
    let n = along_axes inside.counts in
    let keeps = subst (λ (b : BodyOnGrid). KeepsTree b n inside.tree.marks.items inside.tree.sides.items inside.tree.order.items inside.passable.items inside.solid.items) c.self.view_is c.self.invariant in
    subst (λ (k : Counts). g.P.FacePull.fits k c.args.pulls.now) (sym keeps.counts) c.requires.fits

pub cycle_pull-requires-clause-leads : goal.cycle_pull-requires-clause-leads
cycle_pull-requires-clause-leads g c =
    let inside = c.self.inside in
    let n = along_axes inside.counts in
    let keeps = subst (λ (b : BodyOnGrid). KeepsTree b n inside.tree.marks.items inside.tree.sides.items inside.tree.order.items inside.passable.items inside.solid.items) c.self.view_is c.self.invariant in
    leads_read_on c.args.self.now n inside.tree.marks.items inside.tree.sides.items inside.tree.order.items inside.passable.items inside.solid.items keeps c.as_slice.result.now c.as_slice-2.result.now c.as_slice.ensures.value c.as_slice-2.ensures.value

pub cycle_pull-requires-clause-entry : goal.cycle_pull-requires-clause-entry
cycle_pull-requires-clause-entry g c =
    let inside = c.self.inside in
    let n = along_axes inside.counts in
    let keeps = subst (λ (b : BodyOnGrid). KeepsTree b n inside.tree.marks.items inside.tree.sides.items inside.tree.order.items inside.passable.items inside.solid.items) c.self.view_is c.self.invariant in
    subst (λ (marks : List Mark). 0 < distance_at marks c.args.entry.cell.0) (sym c.as_slice.ensures.value) (found_at_entry c.args.self.now n inside.tree.marks.items inside.tree.sides.items inside.tree.order.items inside.passable.items inside.solid.items keeps c.requires.entry.0 c.args.entry.cell.0 c.args.entry.side c.requires.entry.1)

pub returns-clause-value : goal.returns-clause-value
returns-clause-value g c =
    let inside = c.self.inside in
    let n = along_axes inside.counts in
    let keeps = subst (λ (b : BodyOnGrid). KeepsTree b n inside.tree.marks.items inside.tree.sides.items inside.tree.order.items inside.passable.items inside.solid.items) c.self.view_is c.self.invariant in
    let sum : to_z w128 (of_z w128 c.cycle_pull.result) ≡ c.cycle_pull.result = search rules in
    λ f flows entry cycle. sum ∙ c.cycle_pull.ensures.value (mesh_of c.args.self.now) (kept_counts c.args.self.now n inside.tree.marks.items inside.tree.sides.items inside.tree.order.items inside.passable.items inside.solid.items keeps)
    (leads_read c.args.self.now n inside.tree.marks.items inside.tree.sides.items inside.tree.order.items inside.passable.items inside.solid.items keeps c.as_slice.result.now c.as_slice-2.result.now c.as_slice.ensures.value c.as_slice-2.ensures.value) f flows entry cycle
