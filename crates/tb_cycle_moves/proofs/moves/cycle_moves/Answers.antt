use Rattle.std.proofs.Common.{arith, ap}
use Rattle.std.proofs.lemmas.Int.{ints}
use mir.Syntax.{w64}
use mir.Val.{of_z}
use Rattle.tb_relax.specs.Tables.{table_counts}
use Rattle.tb_relax.proofs.Staying.{is_zero, not_zero}
use Rattle.tb_cycles.proofs.Putting.{some_cycle}
use Rattle.tb_trees.specs.Bodies.{mesh_of}
use Rattle.tb_cycle_moves.proofs.Entries.{same_counts, starts}
use Rattle.tb_cycle_moves.proofs.Multiples.{is_left, multiple_small, would_move}
use Rattle.tb_cycle_moves.proofs.moves.cycle_moves.Goals as goal

pub cycle_multiple-multiple-requires-clause-start : goal.cycle_multiple-multiple-requires-clause-start
cycle_multiple-multiple-requires-clause-start c =
    starts c.args.tree.now (table_counts c.args.table.now) c.ways-ways.result.marks.now c.ways-ways.result.sides.now c.requires.entry.0 c.args.entry.cell.0 c.args.entry.side c.requires.counts c.ways-ways.ensures c.requires.entry.1

pub returns-clause-moves : goal.returns-clause-moves
returns-clause-moves c = λ d inside of f entry.
    let m = mesh_of c.args.tree.now in
    let same = same_counts c.args.tree.now (table_counts c.args.table.now) c.requires.counts in
    let x = c.cycle_multiple-multiple.result in
    let cycle = some_cycle m c.ways-ways.result.marks.now c.ways-ways.result.sides.now c.ways-ways.ensures f c.args.entry.cell.0 c.args.entry.side entry in
    let least = c.cycle_multiple-multiple.ensures.least m same c.ways-ways.ensures f cycle.0 entry cycle.1 in
    would_move m c.args.table.now same c.args.flows.now c.requires.flux c.args.entry.cell.0 c.args.entry.side f entry cycle.0 cycle.1 x least
    (λ none. not_zero (of_z w64 x) d (ap (of_z w64) none)) inside of

pub returns-clause-stays : goal.returns-clause-stays
returns-clause-stays c = λ d inside of f entry.
    let m = mesh_of c.args.tree.now in
    let same = same_counts c.args.tree.now (table_counts c.args.table.now) c.requires.counts in
    let x = c.cycle_multiple-multiple.result in
    let cycle = some_cycle m c.ways-ways.result.marks.now c.ways-ways.result.sides.now c.ways-ways.ensures f c.args.entry.cell.0 c.args.entry.side entry in
    let least = c.cycle_multiple-multiple.ensures.least m same c.ways-ways.ensures f cycle.0 entry cycle.1 in
    let small = multiple_small m c.args.table.now same c.args.flows.now c.requires.flux c.args.entry.cell.0 c.args.entry.side f entry cycle.0 cycle.1 x least in
    let e = is_zero (of_z w64 x) d in
    is_left m c.args.table.now same c.args.flows.now c.requires.flux c.args.entry.cell.0 c.args.entry.side f entry cycle.0 cycle.1 x least (omega (arith, ints)) inside of
