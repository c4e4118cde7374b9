use Rattle.std.proofs.Common.{◌≡◌, arith, rules, subst, ◌∙◌, of_z, to_z}
use Rattle.std.specs.Prelude.{ℤ, ◌+ℤ◌, ◌*ℤ◌}
use mir.Syntax.{w64}
use Rattle.tb_grid.specs.Views.{along_axes}
use Rattle.tb_outlets.specs.Balancing.{flow}
use Rattle.tb_cycles.proofs.Outward.{next_found, some_distance}
use Rattle.tb_cycles.specs.Entries.{entering_flow}
use Rattle.tb_cycles.proofs.Putting.{end_put_on, nothing_put, step_put_on, within_put}
use Rattle.tb_cycles.proofs.adding.put_outward.Goals as goal

pub loop-next-init : goal.loop-next-init
loop-next-init c =
    let start = c.requires.start in
    record {
      here = some_distance start.mesh c.args.marks.now c.args.sides.now start.leads c.args.entry.cell.0 start.entry.solid;
      near = omega arith;
      put = λ m same leads f z entry cycle.
          nothing_put m c.args.marks.now c.args.sides.now leads f c.args.entry.cell.0 c.args.entry.side z c.args.flows.now _ entry cycle;
    }

pub put-requires-clause-flow : goal.put-requires-clause-flow
put-requires-clause-flow c =
    within_put (along_axes c.args.counts) c.args.marks.now c.args.sides.now c.args.entry.cell.0 c.args.entry.side _ c.args.flows.now c.loop-next.flows
    c.loop-next.cell.0 c.requires.start c.requires.limits c.loop-next.invariant.here c.loop-next.invariant.near c.loop-next.invariant.put

pub loop-next-smaller : goal.loop-next-smaller
loop-next-smaller c =
    let start = c.requires.start in
    (next_found (along_axes c.args.counts) c.args.marks.now c.args.sides.now (record { mesh = start.mesh; counts = start.counts; leads = start.leads })
    c.loop-next.cell.0 c.in-Some.next.0 c.loop-next.invariant.here c.in-Some.ensures).1

pub loop-next-preserved : goal.loop-next-preserved
loop-next-preserved c =
    let start = c.requires.start in
    let found = next_found (along_axes c.args.counts) c.args.marks.now c.args.sides.now (record { mesh = start.mesh; counts = start.counts; leads = start.leads })
    c.loop-next.cell.0 c.in-Some.next.0 c.loop-next.invariant.here c.in-Some.ensures in
    let nearer = found.1 in
    let near = c.loop-next.invariant.near in
    record {
      here = found.0;
      near = omega arith;
      put = step_put_on (along_axes c.args.counts) c.args.marks.now c.args.sides.now c.args.entry.cell.0 c.args.entry.side _ c.args.flows.now c.loop-next.flows
          c.put.new.flows c.loop-next.cell.0 c.in-Some.next.0 c.loop-next.invariant.here (c.loop-next.auto.flows ∙ c.requires.whole) c.in-Some.ensures
          c.put.ensures c.loop-next.invariant.put;
    }

pub put-requires-2-clause-flow : goal.put-requires-2-clause-flow
put-requires-2-clause-flow c =
    within_put (along_axes c.args.counts) c.args.marks.now c.args.sides.now c.args.entry.cell.0 c.args.entry.side _ c.args.flows.now c.loop-next.flows
    c.loop-next.cell.0 c.requires.start c.requires.limits c.loop-next.invariant.here c.loop-next.invariant.near c.loop-next.invariant.put

pub returns-clause-put : goal.returns-clause-put
returns-clause-put c =
    let more : to_z w64 (of_z w64 c.args.more) ≡ c.args.more = search rules in
    λ m same leads f z entry cycle g.
    subst (λ (t : ℤ). flow c.put-2.new.flows g +ℤ t *ℤ flow (entering_flow m c.args.entry.cell.0 c.args.entry.side) g ≡ flow c.args.flows.now g +ℤ t *ℤ flow z g) more
    (end_put_on (along_axes c.args.counts) c.args.marks.now c.args.sides.now c.args.entry.cell.0 c.args.entry.side _ c.args.flows.now c.loop-next.flows
    c.put-2.new.flows c.loop-next.cell.0 c.loop-next.invariant.here (c.loop-next.auto.flows ∙ c.requires.whole) c.in_default.ensures
    c.put-2.ensures c.loop-next.invariant.put m same leads f z entry cycle g)
