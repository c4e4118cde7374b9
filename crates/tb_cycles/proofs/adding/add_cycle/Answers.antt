use Rattle.std.proofs.Common.{◌≡◌, ℕ, rules, ap, subst, ◌∙◌, of_z, to_z}
use Rattle.std.specs.Prelude.{ℤ, ◌+ℤ◌, ◌*ℤ◌, neg_ℤ, slice_set}
use mir.Syntax.{w64}
use Rattle.tb_grid.specs.Views.{along_axes}
use Rattle.tb_outlets.specs.Balancing.{flow}
use Rattle.tb_outlets.specs.Cycles.{out}
use Rattle.tb_outlets.specs.Sides.{face_of}
use Rattle.tb_cycles.proofs.Putting.{cycle_added, entry_within, still_within}
use Rattle.tb_cycles.proofs.adding.add_cycle.Goals as goal

pub put-requires-clause-flow : goal.put-requires-clause-flow
put-requires-clause-flow c =
    entry_within (along_axes c.args.counts) c.args.marks.now c.args.sides.now c.args.entry.cell.0 c.args.entry.side c.args.flows.now c.requires.start
    c.requires.limits c.requires.whole

pub put_outward-requires-clause-limits : goal.put_outward-requires-clause-limits
put_outward-requires-clause-limits c =
    still_within (along_axes c.args.counts) c.args.marks.now c.args.sides.now c.args.entry.cell.0 c.args.entry.side c.args.flows.now c.put.new.flows _
    c.requires.start c.requires.limits c.requires.whole c.put.ensures

pub returns-clause-added : goal.returns-clause-added
returns-clause-added c = λ m same leads f z entry cycle.
    let n = along_axes c.args.counts in
    let old = c.args.flows.now in
    let k = face_of n c.args.entry.cell.0 c.args.entry.side in
    let back : to_z w64 (of_z w64 c.turned.result) ≡ c.turned.result = search rules in
    let given : to_z w64 (of_z w64 c.args.multiple) ≡ c.args.multiple = search rules in
    let made : c.put.new.flows ≡ slice_set old k (flow old k +ℤ out c.args.entry.side *ℤ neg_ℤ (to_z w64 (of_z w64 c.args.multiple))) =
    c.put.ensures ∙ ap (λ (x : ℤ). slice_set old k (flow old k +ℤ out c.args.entry.side *ℤ x)) (back ∙ c.turned.ensures.value) in
    subst (λ (t : ℤ). (g : ℕ) → flow c.put_outward.new.flows g ≡ flow old g +ℤ t *ℤ flow z g) given
    (cycle_added n m c.args.marks.now c.args.sides.now f c.args.entry.cell.0 c.args.entry.side old c.put.new.flows c.put_outward.new.flows
    (to_z w64 (of_z w64 c.args.multiple)) z same leads entry c.requires.whole made (c.put_outward.ensures.put m same leads f z entry cycle))
