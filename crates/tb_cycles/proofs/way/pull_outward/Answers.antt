use Rattle.std.proofs.Common.{◌≡◌, ◌+◌, ◌*◌, ◌≤◌, ◌^◌, arith, rules, sym, subst, ◌∙◌, of_z, to_z}
use Rattle.std.specs.Prelude.{ℤ, unsigned_abs}
use mir.Syntax.{w128}
use Rattle.tb_places.specs.Places.{cell_count}
use Rattle.tb_grid.specs.Views.{along_axes}
use Rattle.tb_outlets.specs.Balancing.{side_at}
use Rattle.tb_outlets.specs.Searching.{distance_at}
use Rattle.tb_cycles.specs.Ways.{most_pull}
use Rattle.tb_cycles.proofs.Outward.{all_left, cell_within, distance_near, end_on, end_size, marks_long, next_found, one_nearer, step_on, sides_long, within_all}
use Rattle.tb_cycles.proofs.way.pull_outward.Goals as goal

pub loop-next-init : goal.loop-next-init
loop-next-init g c = record {
  here = c.requires.start;
  size = omega arith;
  left = λ m same leads es outward. all_left m (side_at c.args.sides.now) (g.P.FacePull.pulls c.args.pulls.now) c.args.start.0 es outward;
}

pub next_outward-requires-clause-cell : goal.next_outward-requires-clause-cell
next_outward-requires-clause-cell g c =
    cell_within (along_axes c.args.counts) c.args.marks.now c.args.sides.now c.requires.leads c.loop-next.cell.0 c.loop-next.invariant.here

pub next_outward-requires-clause-marks : goal.next_outward-requires-clause-marks
next_outward-requires-clause-marks g c =
    marks_long (along_axes c.args.counts) c.args.marks.now c.args.sides.now c.requires.leads

pub next_outward-requires-clause-sides : goal.next_outward-requires-clause-sides
next_outward-requires-clause-sides g c =
    sides_long (along_axes c.args.counts) c.args.marks.now c.args.sides.now c.requires.leads

pub pull_of_outlet-requires-clause-cell : goal.pull_of_outlet-requires-clause-cell
pull_of_outlet-requires-clause-cell g c =
    cell_within (along_axes c.args.counts) c.args.marks.now c.args.sides.now c.requires.leads c.loop-next.cell.0 c.loop-next.invariant.here

pub pull_of_outlet-requires-clause-sides : goal.pull_of_outlet-requires-clause-sides
pull_of_outlet-requires-clause-sides g c =
    sides_long (along_axes c.args.counts) c.args.marks.now c.args.sides.now c.requires.leads

pub plus-total-requires-clause-total : goal.plus-total-requires-clause-total
plus-total-requires-clause-total g c =
    within_all (unsigned_abs (to_z w128 c.loop-next.total-bits)) (distance_at c.args.marks.now c.loop-next.cell.0) (distance_at c.args.marks.now c.args.start.0) (cell_count (along_axes c.args.counts)) most_pull
    c.loop-next.invariant.size (distance_near (along_axes c.args.counts) c.args.marks.now c.args.sides.now c.requires.leads c.args.start.0) c.args.counts.few

pub loop-next-smaller : goal.loop-next-smaller
loop-next-smaller g c =
    (next_found (along_axes c.args.counts) c.args.marks.now c.args.sides.now c.requires.leads c.loop-next.cell.0 c.in-Some.next.0 c.loop-next.invariant.here c.in-Some.ensures).1

pub loop-next-preserved : goal.loop-next-preserved
loop-next-preserved g c =
    let n = along_axes c.args.counts in
    let marks = c.args.marks.now in
    let sum : to_z w128 (of_z w128 c.plus-total.result) ≡ c.plus-total.result = search rules in
    let more : to_z w128 (of_z w128 c.pull_of_outlet.result) ≡ c.pull_of_outlet.result = search rules in
    let near = next_found (along_axes c.args.counts) c.args.marks.now c.args.sides.now c.requires.leads c.loop-next.cell.0 c.in-Some.next.0 c.loop-next.invariant.here c.in-Some.ensures in
    record {
      here = near.0;
      size = subst (λ (z : ℤ). unsigned_abs z + distance_at marks c.in-Some.next.0 * most_pull ≤ distance_at marks c.args.start.0 * most_pull) (sym sum)
          (one_nearer (unsigned_abs (to_z w128 c.loop-next.total-bits)) (unsigned_abs c.plus-total.result) (distance_at marks c.loop-next.cell.0)
          (distance_at marks c.in-Some.next.0) (distance_at marks c.args.start.0) most_pull c.loop-next.invariant.size c.plus-total.ensures.size near.1);
      left = λ m same leads es outward.
          step_on n m marks c.args.sides.now (g.P.FacePull.pulls c.args.pulls.now) c.args.start.0 es c.loop-next.cell.0 c.in-Some.next.0
          (to_z w128 c.loop-next.total-bits) (to_z w128 (of_z w128 c.pull_of_outlet.result)) (to_z w128 (of_z w128 c.plus-total.result)) same leads
          c.loop-next.invariant.here c.in-Some.ensures (more ∙ c.pull_of_outlet.ensures.value) (sum ∙ c.plus-total.ensures.value)
          (c.loop-next.invariant.left m same leads es outward);
    }

pub pull_of_outlet-requires-2-clause-cell : goal.pull_of_outlet-requires-2-clause-cell
pull_of_outlet-requires-2-clause-cell g c =
    cell_within (along_axes c.args.counts) c.args.marks.now c.args.sides.now c.requires.leads c.loop-next.cell.0 c.loop-next.invariant.here

pub pull_of_outlet-requires-2-clause-sides : goal.pull_of_outlet-requires-2-clause-sides
pull_of_outlet-requires-2-clause-sides g c =
    sides_long (along_axes c.args.counts) c.args.marks.now c.args.sides.now c.requires.leads

pub plus-requires-clause-total : goal.plus-requires-clause-total
plus-requires-clause-total g c =
    within_all (unsigned_abs (to_z w128 c.loop-next.total-bits)) (distance_at c.args.marks.now c.loop-next.cell.0) (distance_at c.args.marks.now c.args.start.0) (cell_count (along_axes c.args.counts)) most_pull
    c.loop-next.invariant.size (distance_near (along_axes c.args.counts) c.args.marks.now c.args.sides.now c.requires.leads c.args.start.0) c.args.counts.few

pub returns-clause-value : goal.returns-clause-value
returns-clause-value g c = λ m same leads es outward.
    let sum : to_z w128 (of_z w128 c.plus.result) ≡ c.plus.result = search rules in
    let more : to_z w128 (of_z w128 c.pull_of_outlet-2.result) ≡ c.pull_of_outlet-2.result = search rules in
    end_on (along_axes c.args.counts) m c.args.marks.now c.args.sides.now (g.P.FacePull.pulls c.args.pulls.now) c.args.start.0 es c.loop-next.cell.0
    (to_z w128 c.loop-next.total-bits) (to_z w128 (of_z w128 c.pull_of_outlet-2.result)) (to_z w128 (of_z w128 c.plus.result)) same leads
    c.loop-next.invariant.here c.in_default.ensures (more ∙ c.pull_of_outlet-2.ensures.value) (sum ∙ c.plus.ensures.value)
    (c.loop-next.invariant.left m same leads es outward)

pub returns-clause-size : goal.returns-clause-size
returns-clause-size g c =
    let marks = c.args.marks.now in
    let sum : to_z w128 (of_z w128 c.plus.result) ≡ c.plus.result = search rules in
    subst (λ (z : ℤ). unsigned_abs z ≤ 2 ^ 18 * most_pull) (sym sum)
    (end_size (unsigned_abs (to_z w128 c.loop-next.total-bits)) (unsigned_abs c.plus.result) (distance_at marks c.loop-next.cell.0)
    (distance_at marks c.args.start.0) (cell_count (along_axes c.args.counts)) most_pull c.loop-next.invariant.size c.plus.ensures.size
    c.loop-next.invariant.here (distance_near (along_axes c.args.counts) c.args.marks.now c.args.sides.now c.requires.leads c.args.start.0) c.args.counts.few)
