use Rattle.std.proofs.Common.{◌≡◌, arith, ap, subst, sym, ◌∙◌, refl, rules, of_z, to_z}
use Rattle.std.proofs.lemmas.Int.{ints}
use Rattle.std.specs.Prelude.{ℤ, ◌+ℤ◌, ◌*ℤ◌, unsigned_abs, ◌≤◌, ◌*◌, ◌^◌}
use mir.Syntax.{w64}
use Rattle.tb_places.specs.Places.{Counts, face_count}
use Rattle.tb_outlets.specs.Balancing.{flow}
use Rattle.tb_relax.specs.Tables.{table_counts}
use Rattle.tb_cycles.proofs.Putting.{some_cycle}
use Rattle.tb_trees.specs.Bodies.{mesh_of}
use Rattle.tb_trees.proofs.Filled.{mesh_counts}
use Rattle.tb_cycle_moves.proofs.Entries.{same_counts, starts}
use Rattle.tb_cycle_moves.proofs.Multiples.{is_kept, is_left, is_moved, is_told, multiple_small}
use Rattle.tb_cycle_moves.proofs.moves.relax_cycle.Goals as goal

pub cycle_multiple-multiple-requires-clause-start : goal.cycle_multiple-multiple-requires-clause-start
cycle_multiple-multiple-requires-clause-start c =
    starts c.args.tree.now (table_counts c.args.table.now) c.ways-ways.result.marks.now c.ways-ways.result.sides.now c.requires.entry.0 c.args.entry.cell.0 c.args.entry.side c.requires.counts c.ways-ways.ensures c.requires.entry.1

pub returns-then-multiple-eq0-clause-moved : goal.returns-then-multiple-eq0-clause-moved
returns-then-multiple-eq0-clause-moved c = λ inside of f entry.
    let m = mesh_of c.args.tree.now in
    let same = same_counts c.args.tree.now (table_counts c.args.table.now) c.requires.counts in
    let x = c.cycle_multiple-multiple.result in
    let cycle = some_cycle m c.ways-ways.result.marks.now c.ways-ways.result.sides.now c.ways-ways.ensures f c.args.entry.cell.0 c.args.entry.side entry in
    let least = c.cycle_multiple-multiple.ensures.least m same c.ways-ways.ensures f cycle.0 entry cycle.1 in
    let small = multiple_small m c.args.table.now same c.args.flows.now c.requires.flux c.args.entry.cell.0 c.args.entry.side f entry cycle.0 cycle.1 x least in
    let e = c.if-multiple-eq0.true in
    is_left m c.args.table.now same c.args.flows.now c.requires.flux c.args.entry.cell.0 c.args.entry.side f entry cycle.0 cycle.1 x least (omega (arith, ints)) inside of

pub add_cycle-requires-clause-whole : goal.add_cycle-requires-clause-whole
add_cycle-requires-clause-whole c = c.requires.flux.faces ∙ ap (λ (n : Counts). face_count n) c.requires.counts

pub add_cycle-requires-clause-multiple : goal.add_cycle-requires-clause-multiple
add_cycle-requires-clause-multiple c =
    let m = mesh_of c.args.tree.now in
    let same = same_counts c.args.tree.now (table_counts c.args.table.now) c.requires.counts in
    let x = c.cycle_multiple-multiple.result in
    let entry = c.requires.entry.1 in
    let cycle = some_cycle m c.ways-ways.result.marks.now c.ways-ways.result.sides.now c.ways-ways.ensures c.requires.entry.0 c.args.entry.cell.0 c.args.entry.side entry in
    let least = c.cycle_multiple-multiple.ensures.least m same c.ways-ways.ensures c.requires.entry.0 cycle.0 entry cycle.1 in
    let step : to_z w64 (of_z w64 c.cycle_multiple-multiple.result) ≡ c.cycle_multiple-multiple.result = search rules in
    subst (λ (z : ℤ). unsigned_abs z ≤ 2 * 10 ^ 12) (sym step)
    (multiple_small m c.args.table.now same c.args.flows.now c.requires.flux c.args.entry.cell.0 c.args.entry.side c.requires.entry.0 entry cycle.0 cycle.1 x least)

pub returns-clause-moved : goal.returns-clause-moved
returns-clause-moved c = λ inside of f entry.
    let m = mesh_of c.args.tree.now in
    let same = same_counts c.args.tree.now (table_counts c.args.table.now) c.requires.counts in
    let x = c.cycle_multiple-multiple.result in
    let cycle = some_cycle m c.ways-ways.result.marks.now c.ways-ways.result.sides.now c.ways-ways.ensures f c.args.entry.cell.0 c.args.entry.side entry in
    let least = c.cycle_multiple-multiple.ensures.least m same c.ways-ways.ensures f cycle.0 entry cycle.1 in
    let step : to_z w64 (of_z w64 c.cycle_multiple-multiple.result) ≡ c.cycle_multiple-multiple.result = search rules in
    is_moved m c.args.table.now same c.args.flows.now c.requires.flux c.args.entry.cell.0 c.args.entry.side f entry cycle.0 cycle.1 x least c.add_cycle.new.flows
    (c.add_cycle.ensures.whole ∙ ap (λ (n : Counts). face_count n) (mesh_counts c.args.tree.now.body c.args.tree.now.grid))
    (λ g. c.add_cycle.ensures.added f cycle.0 entry cycle.1 g ∙ ap (λ (z : ℤ). flow c.args.flows.now g +ℤ z *ℤ flow cycle.0 g) step) inside of

pub returns-clause-told : goal.returns-clause-told
returns-clause-told c =
    let m = mesh_of c.args.tree.now in
    let same = same_counts c.args.tree.now (table_counts c.args.table.now) c.requires.counts in
    let x = c.cycle_multiple-multiple.result in
    let entry = c.requires.entry.1 in
    let f = c.requires.entry.0 in
    let cycle = some_cycle m c.ways-ways.result.marks.now c.ways-ways.result.sides.now c.ways-ways.ensures f c.args.entry.cell.0 c.args.entry.side entry in
    let least = c.cycle_multiple-multiple.ensures.least m same c.ways-ways.ensures f cycle.0 entry cycle.1 in
    let step : to_z w64 (of_z w64 c.cycle_multiple-multiple.result) ≡ c.cycle_multiple-multiple.result = search rules in (
      λ d e. c.if-multiple-eq0.false (
          let none = is_told m c.args.table.now same c.args.flows.now c.requires.flux c.args.entry.cell.0 c.args.entry.side f entry cycle.0 cycle.1 x least c.add_cycle.new.flows
          (c.add_cycle.ensures.whole ∙ ap (λ (n : Counts). face_count n) (mesh_counts c.args.tree.now.body c.args.tree.now.grid))
          (λ g. c.add_cycle.ensures.added f cycle.0 entry cycle.1 g ∙ ap (λ (z : ℤ). flow c.args.flows.now g +ℤ z *ℤ flow cycle.0 g) step) e in
          ap (of_z w64) none),
      λ d. refl,
    )

pub returns-clause-kept : goal.returns-clause-kept
returns-clause-kept c =
    let m = mesh_of c.args.tree.now in
    let same = same_counts c.args.tree.now (table_counts c.args.table.now) c.requires.counts in
    let x = c.cycle_multiple-multiple.result in
    let entry = c.requires.entry.1 in
    let f = c.requires.entry.0 in
    let cycle = some_cycle m c.ways-ways.result.marks.now c.ways-ways.result.sides.now c.ways-ways.ensures f c.args.entry.cell.0 c.args.entry.side entry in
    let least = c.cycle_multiple-multiple.ensures.least m same c.ways-ways.ensures f cycle.0 entry cycle.1 in
    let step : to_z w64 (of_z w64 c.cycle_multiple-multiple.result) ≡ c.cycle_multiple-multiple.result = search rules in
    is_kept m c.args.table.now same c.args.flows.now c.requires.flux c.args.entry.cell.0 c.args.entry.side f entry cycle.0 cycle.1 x least c.add_cycle.new.flows
    (c.add_cycle.ensures.whole ∙ ap (λ (n : Counts). face_count n) (mesh_counts c.args.tree.now.body c.args.tree.now.grid))
    (λ g. c.add_cycle.ensures.added f cycle.0 entry cycle.1 g ∙ ap (λ (z : ℤ). flow c.args.flows.now g +ℤ z *ℤ flow cycle.0 g) step)
