use Rattle.std.proofs.Common.{arith, sym, subst}
use Rattle.std.specs.Prelude.{unsigned_abs}
use Rattle.tb_outlets.specs.declared.side.Side.{Side}
use Rattle.tb_outlets.specs.Searching.{distance_at}
use Rattle.tb_relax.specs.Tables.{table_counts}
use Rattle.tb_cycles.proofs.Outward.{next_found, one_nearer, some_distance}
use Rattle.tb_cycle_moves.specs.Reaches.{most_rate, most_slope}
use Rattle.tb_cycle_moves.proofs.Sizes.{all_limits}
use Rattle.tb_cycle_moves.proofs.Steps.{IsUnderWayOn, begins_on, end_on, started, step_on}
use Rattle.tb_cycle_moves.proofs.walk.cycle_reach.Goals as goal

pub loop-next-init : goal.loop-next-init
loop-next-init c =
    let start = c.requires.start in
    let t = c.args.table.now in
    let is = c.entered-so_far.ensures in
    let r = is.bounded.rate in
    let s = is.bounded.slope in
    record {
      here = some_distance start.mesh c.args.marks.now c.args.sides.now start.leads c.args.entry.cell.0 start.entry.solid;
      rate = omega arith;
      slope = omega arith;
      opens_up = is.bounded.opens_up;
      under = is.bounded.under;
      over = is.bounded.over;
      low_far = is.bounded.low_far;
      high_far = is.bounded.high_far;
      way = begins_on t c.args.marks.now c.args.sides.now c.args.flows.now (all_limits (table_counts t) c.args.flows.now c.requires.flux) c.args.entry.cell.0 c.args.entry.side c.entered-so_far.result
          (record { rate = is.rate; slope = is.slope; within = is.within });
    }

pub loop-next-smaller : goal.loop-next-smaller
loop-next-smaller c =
    let n = table_counts c.args.table.now in
    (next_found n c.args.marks.now c.args.sides.now (started n c.args.marks.now c.args.sides.now c.args.entry.cell.0 c.args.entry.side c.requires.start) c.loop-next.at.cell.0 c.in-Some.next.0 c.loop-next.invariant.here c.in-Some.ensures).1

pub loop-next-preserved : goal.loop-next-preserved
loop-next-preserved c =
    let t = c.args.table.now in
    let n = table_counts t in
    let marks = c.args.marks.now in
    let sides = c.args.sides.now in
    let at = c.loop-next.at in
    let is = c.passed-so_far.ensures in
    let found = next_found n marks sides (started n marks sides c.args.entry.cell.0 c.args.entry.side c.requires.start) at.cell.0 c.in-Some.next.0 c.loop-next.invariant.here c.in-Some.ensures in
    record {
      here = found.0;
      rate = one_nearer (unsigned_abs c.loop-next.so_far.pull.rate) (unsigned_abs c.passed-so_far.result.pull.rate) (distance_at marks at.cell.0) (distance_at marks c.in-Some.next.0) _ most_rate c.loop-next.invariant.rate is.rate found.1;
      slope = one_nearer (unsigned_abs c.loop-next.so_far.pull.slope) (unsigned_abs c.passed-so_far.result.pull.slope) (distance_at marks at.cell.0) (distance_at marks c.in-Some.next.0) _ most_slope c.loop-next.invariant.slope is.slope found.1;
      opens_up = is.opens_up;
      under = is.under;
      over = is.over;
      low_far = is.low_far;
      high_far = is.high_far;
      way = subst (λ (o : Side). IsUnderWayOn t marks sides c.args.flows.now c.args.entry.cell.0 c.args.entry.side c.in-Some.next.0 o c.passed-so_far.result) (sym c.opposite.ensures)
          (step_on t marks sides c.args.flows.now (all_limits n c.args.flows.now c.requires.flux) c.args.entry.cell.0 c.args.entry.side at.cell.0 c.in-Some.next.0 at.side c.loop-next.so_far c.passed-so_far.result
          is.passed c.in-Some.ensures c.loop-next.invariant.way);
    }

pub returns-clause-reach : goal.returns-clause-reach
returns-clause-reach c =
    let t = c.args.table.now in
    let at = c.loop-next.at in
    end_on t c.args.marks.now c.args.sides.now c.args.flows.now (all_limits (table_counts t) c.args.flows.now c.requires.flux) c.args.entry.cell.0 c.args.entry.side at.cell.0 at.side c.loop-next.so_far c.passed.result
    c.passed.ensures.passed c.in_default.ensures c.loop-next.invariant.way
